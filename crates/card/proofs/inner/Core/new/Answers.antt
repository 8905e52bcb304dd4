use Rattle.std.proofs.Common.{refl}
use Rattle.card.proofs.Restarting.{fresh_as}
use Rattle.card.proofs.inner.Core.new.Goals as goal

pub returns : goal.returns
returns c = fresh_as _ c.new.result c.fresh.ensures refl c.new.ensures.state c.new.ensures.header refl c.new-2.ensures refl
