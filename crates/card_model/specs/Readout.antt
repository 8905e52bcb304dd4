-- How events go into the readout and out of it.
-- Assumes nothing.
use Rattle.std.specs.Prelude.{ℕ, ◌-◌, Bool, false, cond, List, [], ◌∷◌, ◌++◌, length, take, drop, replicate, Some, None, Option, nat_le, nat_lt, slice_index, slice_index_or}
use Rattle.stores.specs.Store.{waiting, level_of}
use Rattle.card_model.specs.Fibres.{for_fibres, total, in_fibre_order, lowest}
use Rattle.card_model.specs.Calls.{Loss, too_many, no_room}
use Rattle.card_model.specs.State.{Readout}

-- the record of one fibre, out of the twelve of an event
abbrev pub record_of : List (List ℕ) → ℕ → List ℕ
record_of records f = slice_index_or records f []

-- the lengths of an event's records
unfoldable pub lengths_of : List (List ℕ) → List ℕ
lengths_of records = for_fibres (λ f. length (record_of records f))

-- the length of an event, out of the lengths of its records
abbrev pub event_length : List ℕ → ℕ
event_length lengths = total (λ f. slice_index lengths f)

-- the most events that can wait
abbrev pub most_events : ℕ
most_events = 255

-- a record exceeds the free room of its fibre
abbrev pub exceeds : Readout → List (List ℕ) → ℕ → Bool
exceeds r records f = nat_lt (r.room - level_of r.lists f) (length (record_of records f))

-- the loss of an event whose record exceeds the free room of a fibre, if there is one
abbrev pub lacking : Option ℕ → Option Loss
lacking (Some f) = Some (no_room f)
lacking None = None

-- why an event of twelve records is lost, if it is
unfoldable pub loss : Readout → List (List ℕ) → Option Loss
loss r records = cond (nat_le most_events (length r.events)) (Some too_many) (lacking (lowest (exceeds r records)))

-- an event was kept: each record stands behind what waits on its fibre, and the event waits as the newest
unfoldable pub with_event : Readout → List (List ℕ) → Readout
with_event r records =
    record {
      lists = for_fibres (λ f. waiting r.lists f ++ record_of records f);
      room = r.room;
      events = r.events ++ lengths_of records ∷ [];
      slip_out = r.slip_out;
    }

-- the lengths of the oldest event's records; none where no event waits
abbrev pub oldest_lengths : Readout → List ℕ
oldest_lengths r = slice_index_or r.events 0 []

-- the n oldest bytes of a fibre; where fewer wait, n zeros
abbrev pub taken_from : ℕ → List ℕ → List ℕ
taken_from n list = cond (nat_le n (length list)) (take n list) (replicate n 0)

-- what they leave; where fewer wait, all
abbrev pub left_in : ℕ → List ℕ → List ℕ
left_in n list = cond (nat_le n (length list)) (drop n list) list

-- the bytes of the oldest event: its twelve records one after the other
unfoldable pub oldest_bytes : Readout → List ℕ
oldest_bytes r = in_fibre_order (λ f. taken_from (slice_index (oldest_lengths r) f) (waiting r.lists f))

-- the oldest event was fetched, and the slip is spent
unfoldable pub without_event : Readout → Readout
without_event r =
    record {
      lists = for_fibres (λ f. left_in (slice_index (oldest_lengths r) f) (waiting r.lists f));
      room = r.room;
      events = drop 1 r.events;
      slip_out = false;
    }

-- a slip was given out or taken back
abbrev pub with_slip : Bool → Readout → Readout
with_slip out r = record { lists = r.lists; room = r.room; events = r.events; slip_out = out }
