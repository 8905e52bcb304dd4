-- The three laws of a card, said at the card itself.
-- Assumes nothing.
use Rattle.std.specs.Prelude.{◌≡◌, ℕ, List, ◌∷◌, ◌++◌}
use Rattle.rules.specs.Rules.{Meaning}
use Rattle.card_model.specs.Calls.{Call}
use Rattle.card_model.specs.State.{CardState}
use Rattle.card_model.specs.Runs.{state_after}
use Rattle.card_model.specs.Twins.{TwinsAnswerAlike}
use Rattle.card_model.specs.Laws.{AfterEvery, BytesBalance, NoEarlyLoss}

-- the three laws hold of every list of calls that leads to this state, with one more call at its end
abbrev pub LawsAfter : Meaning → CardState → Call → Type 0
LawsAfter meaning before call =
    (room : ℕ) (calls : List Call) → state_after meaning room calls ≡ before → AfterEvery meaning room (call ∷ calls)

-- the same with a list of more calls, the newest first
abbrev pub LawsAfterList : Meaning → CardState → List Call → Type 0
LawsAfterList meaning before more =
    (room : ℕ) (calls : List Call) → state_after meaning room calls ≡ before → AfterEvery meaning room (more ++ calls)

-- the three laws of one list of calls, over a rule that keeps the shift law
pub record LawsOf (meaning : Meaning) (room : ℕ) (calls : List Call) : Type 0 where
  pub twins_answer_alike : TwinsAnswerAlike meaning room calls
  pub bytes_balance : BytesBalance meaning room calls
  pub no_early_loss : NoEarlyLoss meaning room calls
