use Rattle.std.proofs.Common.{refl, arith}
use Rattle.card.proofs.Queue.{front_none, front_some}
use Rattle.card.proofs.waiting.Waiting.front.Goals as goal

pub returns-then-self-eq0 : goal.returns-then-self-eq0
returns-then-self-eq0 c = rw (← c.self.view_is) (front_none c.self.inside (omega arith))

pub returns-else-self-eq0 : goal.returns-else-self-eq0
returns-else-self-eq0 c = rw (← c.self.view_is) (front_some c.self.inside c.self.invariant _ (omega arith) refl)
