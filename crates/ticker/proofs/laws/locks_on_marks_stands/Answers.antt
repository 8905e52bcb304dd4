use Rattle.ticker.proofs.Locks.{locks_on_marks}
use Rattle.ticker.proofs.laws.locks_on_marks_stands.Goals as goal

pub returns : goal.returns
returns c = locks_on_marks
