use Rattle.std.proofs.Common.{refl}
use Rattle.stores.proofs.Rings.{empty_in}
use Rattle.stores.proofs.index.Index.new.Goals as goal

pub returns : goal.returns
returns c = record { lists = λ cells. empty_in _ cells refl; room = c.min.ensures }
