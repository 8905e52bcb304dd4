-- The twelve samples of a Clock.
-- Assumes nothing.
use Rattle.std.specs.Prelude.{◌≡◌, ℕ, List, Some, None}
use Rattle.terms.specs.declared.refusal.Refusal.{Refusal}
use Rattle.terms.specs.declared.refusal.Refusal.TheVariants.{SampleTooLarge}
use Rattle.strips.specs.declared.sample.Sample.{Sample}
use Rattle.strips.specs.Fibre.{numbers}
use Rattle.card_model.specs.Clock.{too_large}

-- all are up to 1023, and these are they
pub record IsReadAs (samples : List ℕ) (read : List Sample) : Type 0 where
  pub fits : too_large samples ≡ None
  pub same : numbers read ≡ samples

-- one is not: 7, with the lowest fibre of which that is so
pub record IsTooLarge (samples : List ℕ) (refusal : Refusal) : Type 0 where
  pub fibre : ℕ
  pub lowest : Some fibre ≡ too_large samples
  pub says : refusal ≡ SampleTooLarge fibre
