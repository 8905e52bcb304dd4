use Rattle.rules.specs.Averages.{mean_between}
use Rattle.rules.proofs.Shifting.{mean_shifts}
use Rattle.rules.proofs.laws.mean_stands.Goals as goal

pub returns : goal.returns
returns c = record { between = mean_between; shifts = mean_shifts }
