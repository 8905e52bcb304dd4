-- A list of calls since a card was made, the newest first.
-- Assumes nothing.
use Rattle.std.specs.Prelude.{ℕ, ◌+◌, Bool, false, cond, List, [], ◌∷◌, ◌++◌, drop, Some, None, Option, ◌==◌}
use Rattle.rules.specs.Rules.{Meaning}
use Rattle.settings.specs.declared.mode.Mode.{Mode}
use Rattle.settings.specs.declared.mode.Mode.TheVariants.{ZeroSuppression, ProcessedRaw, VirginRaw}
use Rattle.card_model.specs.Calls.{Call, load, clock, ask, fetch, give_back, level, reset, Answer, kept, fetched, was_reset, plain}
use Rattle.card_model.specs.State.{Capture, CardState, fresh}
use Rattle.card_model.specs.Clock.{too_large, last_position, records_of, all_columns}
use Rattle.card_model.specs.Step.{step}

-- the card after a list of calls
abbrev pub state_after : Meaning → ℕ → List Call → CardState
state_after meaning room [] = fresh room
state_after meaning room (c ∷ h) = (step meaning (state_after meaning room h) c).next_card

-- what a call is answered after a list of calls
abbrev pub answer_after : Meaning → ℕ → List Call → Call → Answer
answer_after meaning room h c = (step meaning (state_after meaning room h) c).answer

-- what each call of a list is answered, the newest first
abbrev pub answers : Meaning → ℕ → List Call → List Answer
answers meaning room [] = []
answers meaning room (c ∷ h) = answer_after meaning room h c ∷ answers meaning room h

-- the state and the answers after a list of calls
pub record Ran : Type 0 where
  pub state : CardState
  pub answers_so_far : List Answer

abbrev pub run : Meaning → ℕ → List Call → Ran
run meaning room calls = record { state = state_after meaning room calls; answers_so_far = answers meaning room calls }

-- the capture that runs is at its last position
abbrev pub at_last : Option Capture → Bool
at_last None = false
at_last (Some c) = c.position == last_position

-- the mode of the event that a Clock carried out completes, if it does
abbrev pub completed_by : Option ℕ → CardState → Option Mode
completed_by (Some f) s = None
completed_by None s = cond (at_last s.capture) (Some s.settings.mode) None

-- the mode of the event that a call completes, if it does
abbrev pub completed : CardState → Call → Option Mode
completed s (load word) = None
completed s (clock samples) = completed_by (too_large samples) s
completed s ask = None
completed s (fetch buffer) = None
completed s give_back = None
completed s (level f) = None
completed s reset = None

-- one more if a zero-suppressed event was completed
abbrev pub one_if_suppressed : Option Mode → ℕ
one_if_suppressed None = 0
one_if_suppressed (Some ZeroSuppression) = 1
one_if_suppressed (Some ProcessedRaw) = 0
one_if_suppressed (Some VirginRaw) = 0

-- how many zero-suppressed events a list of calls completes
abbrev pub suppressed_in : Meaning → ℕ → List Call → ℕ
suppressed_in meaning room [] = 0
suppressed_in meaning room (c ∷ h) = suppressed_in meaning room h + one_if_suppressed (completed (state_after meaning room h) c)

-- what waits after an answer, each event by a mark: one kept is the newest, a Fetch takes the oldest away, a Reset all
abbrev pub moved : {M : Type 0} → M → Answer → List M → List M
moved mark (kept n) marks = marks ++ mark ∷ []
moved mark (fetched bytes) marks = drop 1 marks
moved mark was_reset marks = []
moved mark (plain p) marks = marks

-- the events that wait after a list of calls, oldest first, by the mark that the call has which completed each
abbrev pub marks_after : {M : Type 0} → (List Call → Call → M) → Meaning → ℕ → List Call → List M
marks_after mark meaning room [] = []
marks_after mark meaning room (c ∷ h) = moved (mark h c) (answer_after meaning room h c) (marks_after mark meaning room h)

-- the modes in which the events that wait were completed
abbrev pub modes_waiting : Meaning → ℕ → List Call → List Mode
modes_waiting meaning room calls = marks_after (λ h c. (state_after meaning room h).settings.mode) meaning room calls

-- the captured columns as a call completes an event
abbrev pub columns_with : Option Capture → List ℕ → List (List ℕ)
columns_with None samples = []
columns_with (Some c) samples = all_columns c samples

abbrev pub columns_by : CardState → Call → List (List ℕ)
columns_by s (load word) = []
columns_by s (clock samples) = columns_with s.capture samples
columns_by s ask = []
columns_by s (fetch buffer) = []
columns_by s give_back = []
columns_by s (level f) = []
columns_by s reset = []

-- the records of the event that a call completes
abbrev pub records_by : Meaning → CardState → Call → List (List ℕ)
records_by meaning s c = records_of meaning s.settings (columns_by s c)

-- the events that wait, each as its twelve records
abbrev pub records_waiting : Meaning → ℕ → List Call → List (List (List ℕ))
records_waiting meaning room calls = marks_after (λ h c. records_by meaning (state_after meaning room h) c) meaning room calls
