-- Each example computes.
-- Assumes nothing.
use Rattle.std.proofs.Common.{refl}
use Rattle.settings.specs.Questions.{refusal}
use Rattle.settings.specs.Words.{decoded}
use Rattle.settings.proofs.laws.examples_stand.Goals as goal

pub returns : goal.returns
unfolding decoded refusal
returns c = (refl, refl, refl, refl, refl, refl, refl, refl)
