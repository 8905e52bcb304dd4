use Rattle.std.proofs.Common.{refl, arith}
use Rattle.card.proofs.Queue.{popped, popped_none}
use Rattle.card.proofs.waiting.Waiting.pop_front.Goals as goal

pub returns-then-self-gt0 : goal.returns-then-self-gt0
returns-then-self-gt0 c = rw (← c.self.view_is) (popped c.self.inside _ c.self.invariant (omega arith) refl c.round-self-inside.ensures.place refl)

pub returns-else-self-gt0 : goal.returns-else-self-gt0
returns-else-self-gt0 c = rw (← c.self.view_is) (popped_none c.self.inside _ (omega arith) refl)
