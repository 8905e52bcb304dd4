-- What each call returns, as an answer of the card.
-- Assumes nothing.
use Rattle.std.specs.Prelude.{◌≡◌, ℕ, ◌≤◌, List, ◌++◌, length, take, drop, Ok, Err, Result}
use Rattle.terms.specs.declared.refusal.Refusal.{Refusal}
use Rattle.rules.specs.Rules.{Meaning}
use Rattle.card_model.specs.Calls as model
use Rattle.card_model.specs.Calls.{Call, Answer, fetched, was_reset, plain, taken, refused, slip, given_back, level_is}
use Rattle.card_model.specs.State.{CardState}
use Rattle.card_model.specs.Clock.{Outcome}
use Rattle.card_model.specs.Step.{step}
use Rattle.synch.specs.Status.{words}
use Rattle.card.specs.declared.clocked.Clocked.{Clocked}
use Rattle.card.specs.declared.clocked.Clocked.TheVariants.{Quiet, Synch, Kept, Lost}
use Rattle.card.specs.declared.clocked.Loss.{Loss}
use Rattle.card.specs.declared.clocked.Loss.TheVariants.{TooMany, NoRoom}
use Rattle.card.specs.declared.slip.Slip.{Slip}
use Rattle.card.specs.declared.slip.Refused.{Refused}

-- a call led from one state to the next, and was answered, as the card is defined
pub record Stepped (meaning : Meaning) (before : CardState) (call : Call) (after : CardState) (answer : Answer) : Type 0 where
  pub state : after ≡ (step meaning before call).next_card
  pub says : answer ≡ (step meaning before call).answer

-- a Clock led to a state and was answered, as an outcome says
pub record Leads (outcome : Outcome) (after : CardState) (answer : Answer) : Type 0 where
  pub state : after ≡ outcome.next_card
  pub says : answer ≡ outcome.answer

-- what Load returns
abbrev pub said_load : Result (Unit {0}) Refusal → Answer
said_load (Ok x) = plain taken
said_load (Err e) = plain (refused e)

-- what Ask returns
abbrev pub said_ask : Result Slip Refusal → Answer
said_ask (Ok s) = plain (slip s.length)
said_ask (Err e) = plain (refused e)

-- what Give back returns
abbrev pub said_give_back : Result (Unit {0}) Refused → Answer
said_give_back (Ok x) = plain given_back
said_give_back (Err r) = plain (refused r.refusal)

-- what Level returns
abbrev pub said_level : Result ℕ Refusal → Answer
said_level (Ok n) = plain (level_is n)
said_level (Err e) = plain (refused e)

-- what Reset returns
abbrev pub said_reset : Result (Unit {0}) Refusal → Answer
said_reset (Ok x) = was_reset
said_reset (Err e) = plain (refused e)

-- a loss
abbrev pub loss_in : Loss → model.Loss
loss_in TooMany = model.too_many
loss_in (NoRoom f) = model.no_room f

-- what a Clock that is carried out returns
abbrev pub said_clocked : Clocked → Answer
said_clocked Quiet = plain model.quiet
said_clocked (Synch s) = plain (model.synch s.header (words s.words))
said_clocked (Kept n) = model.kept n
said_clocked (Lost l) = plain (model.lost (loss_in l))

-- what Clock returns
abbrev pub said_clock : Result Clocked Refusal → Answer
said_clock (Ok c) = said_clocked c
said_clock (Err e) = plain (refused e)

-- a refusal hands the slip back
abbrev pub HandedBack : {A : Type 0} → Slip → Result A Refused → Type 0
HandedBack s (Ok a) = Unit {0}
HandedBack s (Err r) = r.slip ≡ s

-- what Fetch returns, and leaves at the buffer's start
abbrev pub said_fetch : Result ℕ Refused → List ℕ → Answer
said_fetch (Ok n) buffer = fetched (take n buffer)
said_fetch (Err r) buffer = plain (refused r.refusal)

-- Fetch leaves these bytes at the buffer's start and no later byte changed; a refusal leaves the buffer as it was
abbrev pub Fetched : List ℕ → List ℕ → List ℕ → Result ℕ Refused → Type 0
Fetched bytes before after (Ok n) = (n ≡ length bytes) × (n ≤ length before) × (after ≡ bytes ++ drop n before)
Fetched bytes before after (Err r) = after ≡ before
