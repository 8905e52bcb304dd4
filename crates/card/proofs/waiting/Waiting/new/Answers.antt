use Rattle.std.proofs.Common.{refl}
use Rattle.card.proofs.Queue.{queued_none}
use Rattle.card.proofs.waiting.Waiting.new.Goals as goal

pub returns : goal.returns
returns c = queued_none _ refl
