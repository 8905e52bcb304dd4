-- The laws of a card over every list of calls.
-- Assumes nothing.
use Rattle.std.specs.Prelude.{◌≡◌, ℕ, ◌+◌, ◌/◌, ◌<◌, ◌≤◌, List, [], ◌∷◌, length, Some}
use Rattle.std.specs.List.{AllByRecursion}
use Rattle.rules.specs.Rules.{Meaning, ShiftLaw}
use Rattle.stores.specs.Store.{level_of, largest}
use Rattle.settings.specs.declared.mode.Mode.TheVariants.{ZeroSuppression}
use Rattle.layout.specs.Event.{longest}
use Rattle.layout.specs.declared.kind.Kind.TheVariants.{ZeroSuppressed}
use Rattle.strips.specs.Laws.{Bounded}
use Rattle.card_model.specs.Fibres.{total}
use Rattle.card_model.specs.Calls.{Call, Answer, kept, fetched, was_reset, plain}
use Rattle.card_model.specs.State.{CardState}
use Rattle.card_model.specs.Runs.{state_after, answer_after, answers, completed, modes_waiting}
use Rattle.card_model.specs.Twins.{TwinsAnswerAlike}

-- the lengths announced by Kept, since the last Reset carried out; the answers are given newest first
abbrev pub announced : List Answer → ℕ
announced [] = 0
announced (kept n ∷ before) = n + announced before
announced (fetched bytes ∷ before) = announced before
announced (was_reset ∷ before) = 0
announced (plain p ∷ before) = announced before

-- the number of bytes fetched since then
abbrev pub fetched_since : List Answer → ℕ
fetched_since [] = 0
fetched_since (kept n ∷ before) = fetched_since before
fetched_since (fetched bytes ∷ before) = length bytes + fetched_since before
fetched_since (was_reset ∷ before) = 0
fetched_since (plain p ∷ before) = fetched_since before

-- the twelve levels together
abbrev pub levels : CardState → ℕ
levels s = total (level_of s.readout.lists)

-- bytes balance: what was announced is what was fetched and what the twelve levels tell
abbrev pub BytesBalance : Meaning → ℕ → List Call → Type 0
BytesBalance meaning room calls =
    announced (answers meaning room calls) ≡ fetched_since (answers meaning room calls) + levels (state_after meaning room calls)

-- an answer says that an event was kept
abbrev pub IsKept : Answer → Type 0
IsKept (kept n) = Unit {0}
IsKept (fetched bytes) = ⊥
IsKept was_reset = ⊥
IsKept (plain p) = ⊥

-- no early loss: every zero-suppressed event completed while only such events waited, fewer than the capacity holds of the
-- longest records, was kept
abbrev pub NoEarlyLoss : Meaning → ℕ → List Call → Type 0
NoEarlyLoss meaning room [] = Unit {0}
NoEarlyLoss meaning room (c ∷ h) =
    NoEarlyLoss meaning room h
    × (completed (state_after meaning room h) c ≡ Some ZeroSuppression
    → AllByRecursion (λ mode. mode ≡ ZeroSuppression) (modes_waiting meaning room h)
    → length (modes_waiting meaning room h) < room / longest ZeroSuppressed
    → IsKept (answer_after meaning room h c))

-- bytes balance over every rule, every capacity and every list of calls
abbrev pub BalanceLaw : Type 0
BalanceLaw = (meaning : Meaning) (room : ℕ) (calls : List Call) → BytesBalance meaning room calls

-- no early loss, where the rule answers at most 1023 and the capacity is one of a store
abbrev pub EarlyLaw : Type 0
EarlyLaw = (meaning : Meaning) (room : ℕ) → room ≤ largest → Bounded meaning → (calls : List Call) → NoEarlyLoss meaning room calls

-- twins answer alike, where the rule keeps the shift law
abbrev pub TwinLaw : Type 0
TwinLaw = (meaning : Meaning) (room : ℕ) → ShiftLaw meaning → (calls : List Call) → TwinsAnswerAlike meaning room calls

-- the three laws of one list of calls; the twin law where the rule keeps the shift law
pub record AfterEvery (meaning : Meaning) (room : ℕ) (calls : List Call) : Type 0 where
  pub twins_answer_alike : ShiftLaw meaning → TwinsAnswerAlike meaning room calls
  pub bytes_balance : BytesBalance meaning room calls
  pub no_early_loss : NoEarlyLoss meaning room calls

-- they hold of every list of calls, over every rule and every capacity
abbrev pub ThreeLaws : Type 0
ThreeLaws = (meaning : Meaning) (room : ℕ) → room ≤ largest → Bounded meaning → (calls : List Call) → AfterEvery meaning room calls
