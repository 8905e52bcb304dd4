use Rattle.std.proofs.Common.{arith}
use Rattle.card.proofs.Formed.{long_all}
use Rattle.card.proofs.forming.lengths_of.Goals as goal

pub returns : goal.returns
returns c = long_all c.args.records.now c.loop-f.lengths _ c.loop-f.f (omega arith) c.loop-f.invariant.0 c.loop-f.invariant.1
