-- What waits, why an event is lost, what a slip tells, and what a Fetch gives, after every list of calls.
-- Assumes nothing.
use Rattle.std.specs.Prelude.{◌≡◌, ℕ, ◌+◌, ◌<◌, ◌≤◌, true, List, [], map, length, Some, None, Option, slice_index_or}
use Rattle.std.specs.List.{flat_map}
use Rattle.rules.specs.Rules.{Meaning}
use Rattle.stores.specs.Store.{waiting}
use Rattle.settings.specs.declared.mode.Mode.{Mode}
use Rattle.settings.specs.Settings.{of_fibre}
use Rattle.layout.specs.Event.{Event, EventOk, bytes_of}
use Rattle.strips.specs.Laws.{Bounded, RanksFit}
use Rattle.card_model.specs.Fibres.{total, in_fibre_order}
use Rattle.card_model.specs.Calls.{Call, Answer, kept, fetched, plain, lost, Loss, too_many, no_room}
use Rattle.card_model.specs.Readout.{record_of, lengths_of}
use Rattle.card_model.specs.Runs.{state_after, answer_after, completed, records_by, records_waiting}

-- what waits on a fibre where some events wait: its records of them one after the other, oldest first
abbrev pub stacked : List (List (List ℕ)) → ℕ → List ℕ
stacked es f = flat_map (λ e. record_of e f) es

-- what waits is what was kept and not fetched, in that order: on each fibre stand its records of these events one after the
-- other, and the readout knows their lengths
pub record WaitsInOrder (meaning : Meaning) (room : ℕ) (calls : List Call) : Type 0 where
  pub records : (f : ℕ) → f < 12
      → waiting (state_after meaning room calls).readout.lists f ≡ stacked (records_waiting meaning room calls) f
  pub lengths : (state_after meaning room calls).readout.events ≡ map lengths_of (records_waiting meaning room calls)
  pub capacity : (state_after meaning room calls).readout.room ≡ room
  pub within : (f : ℕ) → f < 12 → length (stacked (records_waiting meaning room calls) f) ≤ room
  pub few : length (records_waiting meaning room calls) ≤ 255

-- the bytes on a fibre with an event behind those that wait
abbrev pub level_with : List (List (List ℕ)) → List (List ℕ) → ℕ → ℕ
level_with es e f = length (stacked es f) + length (record_of e f)

-- why an event is lost where some wait: 255 of them do; or, where fewer do, its record on this fibre goes past the capacity and
-- on no lower fibre; it is kept where neither is so
abbrev pub Because : ℕ → List (List (List ℕ)) → List (List ℕ) → Option Loss → Type 0
Because room es e None = (length es < 255) × ((f : ℕ) → f < 12 → level_with es e f ≤ room)
Because room es e (Some too_many) = length es ≡ 255
Because room es e (Some (no_room f)) =
    (length es < 255) × (f < 12) × (room < level_with es e f) × ((g : ℕ) → g < f → level_with es e g ≤ room)

-- what a completed event is answered: its loss, or that it is kept, with the length of its twelve records
abbrev pub answered : List (List ℕ) → Option Loss → Answer
answered e (Some l) = plain (lost l)
answered e None = kept (total (λ f. length (record_of e f)))

-- no completed event is lost without a reason, and none kept against one
abbrev pub LossesHaveReasons : Meaning → ℕ → List Call → Call → Type 0
LossesHaveReasons meaning room h c =
    (mode : Mode) → completed (state_after meaning room h) c ≡ Some mode
    → (l : Option Loss)
    × (answer_after meaning room h c ≡ answered (records_by meaning (state_after meaning room h) c) l)
    × Because room (records_waiting meaning room h) (records_by meaning (state_after meaning room h) c) l

-- a slip out means that an event waits
abbrev pub SlipMeansWaiting : Meaning → ℕ → List Call → Type 0
SlipMeansWaiting meaning room calls =
    (state_after meaning room calls).readout.slip_out ≡ true → 0 < length (records_waiting meaning room calls)

-- a Fetch gives the twelve records of the event that waits longest, one after the other
abbrev pub FetchGivesOldest : Meaning → ℕ → List Call → Call → Type 0
FetchGivesOldest meaning room h c =
    (bytes : List ℕ) → answer_after meaning room h c ≡ fetched bytes
    → (0 < length (records_waiting meaning room h)) × (bytes ≡ in_fibre_order (record_of (slice_index_or (records_waiting meaning room h) 0 [])))

-- and these are the bytes of an event of the layout, so that the reader accepts them
abbrev pub FetchGivesEvent : Meaning → ℕ → List Call → Call → Type 0
FetchGivesEvent meaning room h c =
    (bytes : List ℕ) → answer_after meaning room h c ≡ fetched bytes → (e : Event) × EventOk e × (bytes ≡ bytes_of e)

-- a rank setting has eight bits
abbrev pub RanksStay : Meaning → ℕ → List Call → Type 0
RanksStay meaning room calls = (f : ℕ) → RanksFit (of_fibre (state_after meaning room calls).settings f)

-- all these hold over every rule, every capacity and every list of calls
pub record ReadoutLaws : Type 0 where
  pub in_order : (meaning : Meaning) (room : ℕ) (calls : List Call) → WaitsInOrder meaning room calls
  pub losses : (meaning : Meaning) (room : ℕ) (h : List Call) (c : Call) → LossesHaveReasons meaning room h c
  pub slips : (meaning : Meaning) (room : ℕ) (calls : List Call) → SlipMeansWaiting meaning room calls
  pub oldest : (meaning : Meaning) (room : ℕ) (h : List Call) (c : Call) → FetchGivesOldest meaning room h c
  pub ranks : (meaning : Meaning) (room : ℕ) (calls : List Call) → RanksStay meaning room calls

-- where the rule answers at most 1023, every event fetched is one of the layout
abbrev pub EventsOfTheLayout : Type 0
EventsOfTheLayout = (meaning : Meaning) (room : ℕ) → Bounded meaning → (h : List Call) (c : Call) → FetchGivesEvent meaning room h c
