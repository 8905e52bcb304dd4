use Rattle.std.proofs.Common.{refl}
use Rattle.card.proofs.Queue.{queued_none}
use Rattle.card.proofs.waiting.Waiting.clear.Goals as goal

pub returns : goal.returns
returns c = queued_none _ refl
