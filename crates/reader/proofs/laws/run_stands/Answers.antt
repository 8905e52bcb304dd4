use Rattle.reader.proofs.RunLaws.{exactly_the_run, up_to_the_damage}
use Rattle.reader.proofs.laws.run_stands.Goals as goal

pub returns : goal.returns
returns c = record { exactly = exactly_the_run; damaged = up_to_the_damage }
