use Rattle.std.proofs.Common.{arith}
use Rattle.card.proofs.Losing.{loss_many, loss_room, loss_none}
use Rattle.card.proofs.inner.Core.loss.Goals as goal

pub returns-then-len-ge-MOST : goal.returns-then-len-ge-MOST
returns-then-len-ge-MOST g c = loss_many _ _ _ _ (omega arith)

pub returns-then-from-free_room : goal.returns-then-from-free_room
returns-then-from-free_room g c = loss_room _ _ _ _ c.loop-f.f (omega arith) (omega arith) (omega arith) c.loop-f.invariant

pub returns : goal.returns
returns g c = loss_none _ _ _ _ c.loop-f.f (omega arith) (omega arith) c.loop-f.invariant
