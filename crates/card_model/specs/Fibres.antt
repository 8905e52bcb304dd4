-- Things said of each of the twelve fibres.
-- Assumes nothing.
use Rattle.std.specs.Prelude.{ℕ, Bool, cond, List, [], ◌∷◌, map, Some, None, sum_by, Option}
use Rattle.std.specs.List.{range_with_len, flat_map}

-- something for each fibre, fibre 0's first
unfoldable pub for_fibres : {X : Type 0} → (ℕ → X) → List X
for_fibres g = map g (range_with_len 0 12)

-- a number of each fibre, summed
unfoldable pub total : (ℕ → ℕ) → ℕ
total g = sum_by g (range_with_len 0 12)

-- the bytes of each fibre one after the other, in fibre order
unfoldable pub in_fibre_order : (ℕ → List ℕ) → List ℕ
in_fibre_order g = flat_map g (range_with_len 0 12)

-- the first of some fibres for which a test says yes
abbrev pub first_of : (ℕ → Bool) → List ℕ → Option ℕ
first_of test [] = None
first_of test (f ∷ fs) = cond (test f) (Some f) (first_of test fs)

-- the lowest fibre for which a test says yes
unfoldable pub lowest : (ℕ → Bool) → Option ℕ
lowest test = first_of test (range_with_len 0 12)
