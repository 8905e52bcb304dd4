use Rattle.worked_runs.proofs.Runs.{worked_twins}
use Rattle.worked_runs.proofs.laws.worked_twins_stand.Goals as goal

pub returns : goal.returns
returns c = worked_twins
