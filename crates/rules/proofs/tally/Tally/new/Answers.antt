use Rattle.rules.proofs.Bins.{tallies_none}
use Rattle.rules.proofs.tally.Tally.new.Goals as goal

pub returns : goal.returns
returns c = tallies_none
