use Rattle.std.proofs.Common.{refl}
use Rattle.reader.proofs.laws.worked_examples_stand.Goals as goal

pub returns : goal.returns
returns c = (refl, refl)
