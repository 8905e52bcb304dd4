-- The calls of a card, and what it can answer.
-- Assumes nothing.
use Rattle.std.specs.Prelude.{ℕ, List, Some, None, Option}
use Rattle.terms.specs.declared.refusal.Refusal.{Refusal}

-- a call with its arguments: Load a setting word, Clock twelve samples, Ask, Fetch into a buffer of a length, Give back, Level of a fibre, Reset
pub data Call : Type 0 where
  load : ℕ → Call
  clock : List ℕ → Call
  ask : Call
  fetch : ℕ → Call
  give_back : Call
  level : ℕ → Call
  reset : Call

-- why a completed event is lost: as many events wait as can, or a fibre's record exceeds its free room
pub data Loss : Type 0 where
  too_many : Loss
  no_room : ℕ → Loss

-- the number of each loss
abbrev pub loss_number : Loss → ℕ
loss_number too_many = 14
loss_number (no_room f) = 15

-- what a loss names beside its number: the lowest fibre whose record exceeds its free room
abbrev pub loss_named : Loss → Option ℕ
loss_named too_many = None
loss_named (no_room f) = Some f

-- an answer with which no event comes or goes: a setting taken, a refusal, a quiet Clock, a header with twelve status words,
-- a lost event, a slip with the oldest event's length, a slip given back, a level
pub data Plain : Type 0 where
  taken : Plain
  refused : Refusal → Plain
  quiet : Plain
  synch : ℕ → List ℕ → Plain
  lost : Loss → Plain
  slip : ℕ → Plain
  given_back : Plain
  level_is : ℕ → Plain

-- an answer: an event kept, with its length; the bytes of an event fetched; a reset carried out; or one of the others
pub data Answer : Type 0 where
  kept : ℕ → Answer
  fetched : List ℕ → Answer
  was_reset : Answer
  plain : Plain → Answer
