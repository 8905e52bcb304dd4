-- An event's bytes in a store, by the lengths of its records.
-- Assumes nothing.
use Rattle.std.specs.Prelude.{◌≡◌, ℕ, List, [], slice_index, slice_index_or}
use Rattle.stores.specs.Store.{waiting}
use Rattle.card_model.specs.Readout.{taken_from, left_in}

-- the bytes of a fibre's record
abbrev pub record_in : List ℕ → List (List ℕ) → ℕ → List ℕ
record_in lengths lists f = taken_from (slice_index lengths f) (waiting lists f)

-- what they leave
abbrev pub left_by : List ℕ → List (List ℕ) → ℕ → List ℕ
left_by lengths lists f = left_in (slice_index lengths f) (waiting lists f)

-- lengths are those of the oldest of some events, on each fibre; 0 where there are none
abbrev pub LengthsOf : List (List ℕ) → List ℕ → Type 0
LengthsOf events lengths = (f : ℕ) → slice_index lengths f ≡ slice_index (slice_index_or events 0 []) f
