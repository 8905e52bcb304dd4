use Rattle.rules.specs.Positions.{rank_laws, rank_between}
use Rattle.rules.proofs.Shifting.{rank_shifts}
use Rattle.rules.proofs.laws.rank_stands.Goals as goal

pub returns : goal.returns
returns c = record { position = rank_laws; between = rank_between; shifts = rank_shifts }
