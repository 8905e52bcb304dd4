use Rattle.ticker.proofs.Judged.{judged_alone, judged_exactly}
use Rattle.ticker.proofs.laws.judged_stands.Goals as goal

pub returns : goal.returns
returns c = record { alone = judged_alone; exactly = judged_exactly }
