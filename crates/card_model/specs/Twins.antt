-- A shifted twin of a card, and what its answers have to do with the card's.
-- Assumes nothing.
use Rattle.std.specs.Prelude.{◌≡◌, ℕ, ◌<◌, true, List, [], ◌∷◌, length, ℤ, Some, None, Option, slice_index, slice_index_or}
use Rattle.terms.specs.declared.pair.Side.{Side}
use Rattle.rules.specs.Rules.{Meaning}
use Rattle.settings.specs.declared.mode.Mode.{Mode}
use Rattle.settings.specs.declared.mode.Mode.TheVariants.{ZeroSuppression, ProcessedRaw, VirginRaw}
use Rattle.settings.specs.Settings.{of_fibre}
use Rattle.ticker.specs.Step.{judged}
use Rattle.strips.specs.Laws.{ShiftedFibre, ShiftedRecord, number_at}
use Rattle.card_model.specs.Fibres.{in_fibre_order}
use Rattle.card_model.specs.Calls.{Call, load, clock, ask, fetch, give_back, level, reset, Answer, kept, fetched, was_reset, plain}
use Rattle.card_model.specs.State.{CardState, watch_of}
use Rattle.card_model.specs.Readout.{record_of}
use Rattle.card_model.specs.Clock.{too_large, level_in, row}
use Rattle.card_model.specs.Runs.{state_after, answer_after, completed, suppressed_in, marks_after, columns_with}

-- the constants of an event: a whole number for each chip, by fibre and side
abbrev pub Constants : Type 0
Constants = ℕ → Side → ℤ

-- the samples of an event that a Clock completes: zero-suppressed ones are shifted by the constants, raw ones are equal
abbrev pub SamplesAlike : CardState → CardState → Constants → List ℕ → List ℕ → Option Mode → Type 0
SamplesAlike s t c xs ys None = Unit {0}
SamplesAlike s t c xs ys (Some ZeroSuppression) =
    (f : ℕ) → f < 12 → ShiftedFibre (of_fibre s.settings f) (c f) (row (columns_with s.capture xs) f) (row (columns_with t.capture ys) f)
SamplesAlike s t c xs ys (Some ProcessedRaw) = (f : ℕ) → f < 12 → row (columns_with t.capture ys) f ≡ row (columns_with s.capture xs) f
SamplesAlike s t c xs ys (Some VirginRaw) = (f : ℕ) → f < 12 → row (columns_with t.capture ys) f ≡ row (columns_with s.capture xs) f

-- the samples of a Clock carried out on the card in state s and on its twin in state t: up to 1023 in the twin too; each that
-- is judged is a 1 in both or a 0 in both; those of a completed event are alike; all others are free
pub record TwinSamples (s t : CardState) (c : Constants) (xs ys : List ℕ) : Type 0 where
  pub ten_bits : too_large ys ≡ None
  pub same_levels : (f : ℕ) → f < 12 → judged (of_fibre s.settings f).enable (watch_of s.watches f).state ≡ true
      → level_in (of_fibre s.settings f) (slice_index ys f) ≡ level_in (of_fibre s.settings f) (slice_index xs f)
  pub events_alike : SamplesAlike s t c xs ys (completed s (clock xs))

-- the samples of a Clock: those of one that is refused are equal
abbrev pub TwinClock : Option ℕ → CardState → CardState → Constants → List ℕ → List ℕ → Type 0
TwinClock (Some f) s t c xs ys = ys ≡ xs
TwinClock None s t c xs ys = TwinSamples s t c xs ys

-- the arguments of a Clock of the card, and a call of the twin
abbrev pub TwinOfClock : CardState → CardState → Constants → List ℕ → Call → Type 0
TwinOfClock s t c xs (load word) = ⊥
TwinOfClock s t c xs (clock ys) = TwinClock (too_large xs) s t c xs ys
TwinOfClock s t c xs ask = ⊥
TwinOfClock s t c xs (fetch buffer) = ⊥
TwinOfClock s t c xs give_back = ⊥
TwinOfClock s t c xs (level f) = ⊥
TwinOfClock s t c xs reset = ⊥

-- a call of the card and one of its twin: the arguments are equal but for the samples of Clocks carried out
abbrev pub TwinCall : CardState → CardState → Constants → Call → Call → Type 0
TwinCall s t c (load word) y = y ≡ load word
TwinCall s t c (clock xs) y = TwinOfClock s t c xs y
TwinCall s t c ask y = y ≡ ask
TwinCall s t c (fetch buffer) y = y ≡ fetch buffer
TwinCall s t c give_back y = y ≡ give_back
TwinCall s t c (level f) y = y ≡ level f
TwinCall s t c reset y = y ≡ reset

-- ys is the list of calls of a shifted twin of the card whose list is xs, both the newest first; cs n are the constants of the
-- completed zero-suppressed event that has n such events before it, kept or lost
abbrev pub Twins : Meaning → ℕ → (ℕ → Constants) → List Call → List Call → Type 0
Twins meaning room cs [] [] = Unit {0}
Twins meaning room cs [] (y ∷ ys) = ⊥
Twins meaning room cs (x ∷ xs) [] = ⊥
Twins meaning room cs (x ∷ xs) (y ∷ ys) =
    Twins meaning room cs xs ys
    × TwinCall (state_after meaning room xs) (state_after meaning room ys) (cs (suppressed_in meaning room xs)) x y

-- an event's bytes in the card and in the twin: as many, twelve records that open with their own lengths, equal outside the
-- common modes, and there the twin's number is the card's plus the constant of the chip
pub record ShiftedEvent (c : Constants) (one other : List ℕ) : Type 0 where
  pub records : List (List ℕ)
  pub others : List (List ℕ)
  pub in_order : one ≡ in_fibre_order (record_of records)
  pub others_in_order : other ≡ in_fibre_order (record_of others)
  pub opens : (f : ℕ) → f < 12 → number_at (record_of records f) 0 ≡ length (record_of records f)
  pub shifted : (f : ℕ) → f < 12 → ShiftedRecord (c f) (record_of records f) (record_of others f)

-- what a Fetch gives in the card and in the twin, by the constants of the event, which a raw one has none of
abbrev pub BytesAlike : Option Constants → List ℕ → List ℕ → Type 0
BytesAlike None one other = other ≡ one
BytesAlike (Some c) one other = ShiftedEvent c one other

-- an answer of the card and one of the twin: equal but for the bytes of an event
abbrev pub Alike : Option Constants → Answer → Answer → Type 0
Alike c (kept n) answer = answer ≡ kept n
Alike c (fetched one) answer = (other : List ℕ) × (answer ≡ fetched other) × BytesAlike c one other
Alike c was_reset answer = answer ≡ was_reset
Alike c (plain p) answer = answer ≡ plain p

-- the constants of an event completed in a mode
abbrev pub constants_in : Mode → Constants → Option Constants
constants_in ZeroSuppression c = Some c
constants_in ProcessedRaw c = None
constants_in VirginRaw c = None

-- the constants of the events that wait, oldest first
abbrev pub constants_waiting : Meaning → ℕ → (ℕ → Constants) → List Call → List (Option Constants)
constants_waiting meaning room cs calls =
    marks_after (λ h c. constants_in (state_after meaning room h).settings.mode (cs (suppressed_in meaning room h))) meaning room calls

-- every answer of the twin is like the card's, the oldest event of each Fetch by its own constants
abbrev pub AnswersAlike : Meaning → ℕ → (ℕ → Constants) → List Call → List Call → Type 0
AnswersAlike meaning room cs [] [] = Unit {0}
AnswersAlike meaning room cs [] (y ∷ ys) = ⊥
AnswersAlike meaning room cs (x ∷ xs) [] = ⊥
AnswersAlike meaning room cs (x ∷ xs) (y ∷ ys) =
    AnswersAlike meaning room cs xs ys
    × Alike (slice_index_or (constants_waiting meaning room cs xs) 0 None) (answer_after meaning room xs x) (answer_after meaning room ys y)

-- twins answer alike: whatever the constants, every twin has answered every call like the card
abbrev pub TwinsAnswerAlike : Meaning → ℕ → List Call → Type 0
TwinsAnswerAlike meaning room calls =
    (cs : ℕ → Constants) (others : List Call) → Twins meaning room cs calls others → AnswersAlike meaning room cs calls others
