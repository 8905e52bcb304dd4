-- A column of samples in the rows of twelve fibres.
-- Assumes nothing.
use Rattle.std.specs.Prelude.{◌≡◌, ℕ, ◌<◌, cond, List, [], ◌∷◌, ◌++◌, length, nat_le, slice_index, slice_index_or, slice_set}
use Rattle.card_model.specs.Fibres.{for_fibres}
use Rattle.card_model.specs.Clock.{first_sample}

-- a column was written at a place of each row, and nothing else
pub record ColumnSet (before : List (List ℕ)) (place : ℕ) (samples : List ℕ) (after : List (List ℕ)) : Type 0 where
  pub twelve : length samples ≡ 12
  pub inside : (f : ℕ) → f < 12 → place < length (slice_index_or before f [])
  pub rows : after ≡ for_fibres (λ f. slice_set (slice_index_or before f []) place (slice_index samples f))

-- the columns before a position, and behind them its samples, if it is one that has samples
abbrev pub columns_after : ℕ → List ℕ → List (List ℕ) → List (List ℕ)
columns_after position samples columns = cond (nat_le first_sample position) (columns ++ samples ∷ []) columns
