-- Whether an event of twelve records is lost, by their lengths.
-- Assumes nothing.
use Rattle.std.specs.Prelude.{ℕ, ◌+◌, ◌-◌, ◌<◌, ◌≤◌, Bool, cond, List, Some, None, Option, nat_le, nat_lt, slice_index}
use Rattle.stores.specs.Store.{level_of}
use Rattle.card_model.specs.Fibres.{lowest}
use Rattle.card_model.specs.Calls as model
use Rattle.card_model.specs.Readout.{most_events, lacking}
use Rattle.card.specs.declared.clocked.Loss.{Loss}
use Rattle.card.specs.Steps.{loss_in}

-- a record of a length exceeds the free room of its fibre
abbrev pub exceeds_by : ℕ → List (List ℕ) → List ℕ → ℕ → Bool
exceeds_by room lists lengths f = nat_lt (room - level_of lists f) (slice_index lengths f)

-- why an event with records of these lengths is lost, where some wait
unfoldable pub loss_by : ℕ → List (List ℕ) → ℕ → List ℕ → Option model.Loss
loss_by room lists events lengths = cond (nat_le most_events events) (Some model.too_many) (lacking (lowest (exceeds_by room lists lengths)))

-- a loss, if there is one
abbrev pub loss_in_all : Option Loss → Option model.Loss
loss_in_all None = None
loss_in_all (Some l) = Some (loss_in l)

-- every record fits the free room of its fibre
abbrev pub FitsAll : ℕ → List (List ℕ) → List ℕ → Type 0
FitsAll room lists lengths = (f : ℕ) → f < 12 → level_of lists f + slice_index lengths f ≤ room
