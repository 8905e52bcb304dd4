use Rattle.layout.proofs.Codes.{codes_tell_kinds}
use Rattle.layout.specs.Lengths.{lengths_in_range, at_most_86}
use Rattle.layout.proofs.laws.laws_stand.Goals as goal

pub returns : goal.returns
returns c = (codes_tell_kinds, lengths_in_range, at_most_86)
