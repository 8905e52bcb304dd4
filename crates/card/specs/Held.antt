-- A card as its callers see it, and what a call of it does.
-- Assumes nothing.
use Rattle.std.specs.Prelude.{ℕ, List, Result}
use Rattle.terms.specs.declared.refusal.Refusal.{Refusal}
use Rattle.rules.specs.Rules.{Meaning}
use Rattle.card_model.specs.Calls as model
use Rattle.card_model.specs.State.{CardState}
use Rattle.card.specs.declared.call.Call.{Call}
use Rattle.card.specs.Steps.{Stepped}
use Rattle.card.specs.CardLaws.{LawsAfter, LawsAfterList}
use Rattle.card.specs.Carrying.{Reply, newest_first, Answered, CarriedOut}

-- a card: its rule, and the state that all else of it stands for
pub record Held (R : Type 0) : Type 0 where
  pub rule : R
  pub state : CardState

module _ {R : Type 0} (meaning : R → Meaning) where
  -- a call led from one card to the next, and was answered, as the card is defined
  abbrev pub CallStepped : Held R → model.Call → Held R → model.Answer → Type 0
  CallStepped before call after answer = Stepped (meaning before.rule) before.state call after.state answer

  -- the three laws hold of every list of calls that leads to this card, with one more call, or a list of more, at its end
  abbrev pub CallKeepsLaws : Held R → model.Call → Type 0
  CallKeepsLaws before call = LawsAfter (meaning before.rule) before.state call

  abbrev pub CallsKeepLaws : Held R → List Call → Type 0
  CallsKeepLaws before calls = LawsAfterList (meaning before.rule) before.state (newest_first calls)

  -- a call was carried out that is lent the buffer from a place on
  abbrev pub CallAnswered : Held R → Call → ℕ → List ℕ → Held R → Reply → List ℕ → Type 0
  CallAnswered before call at bytes after answer bytes' =
      Answered (meaning before.rule) before.state call at bytes after.state answer bytes'

  -- what became of a list of calls, by what its carrying out returned
  abbrev pub CallsCarriedOut : Held R → List Call → List Reply → List ℕ → Held R → List Reply → List ℕ → Result (Unit {0}) Refusal → Type 0
  CallsCarriedOut before calls row bytes after row' bytes' result =
      CarriedOut (meaning before.rule) before.state calls row bytes after.state row' bytes' result
