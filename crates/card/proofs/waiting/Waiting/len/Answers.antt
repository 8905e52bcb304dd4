use Rattle.std.proofs.Common.{sym}
use Rattle.card.proofs.Queue.{queued_length}
use Rattle.card.proofs.waiting.Waiting.len.Goals as goal

pub returns-clause-count : goal.returns-clause-count
returns-clause-count c = rw (← c.self.view_is) (sym (queued_length c.self.inside))
