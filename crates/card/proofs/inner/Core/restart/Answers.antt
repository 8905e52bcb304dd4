use Rattle.card.proofs.Restarting.{restarted_as}
use Rattle.card.proofs.inner.Core.restart.Goals as goal

pub returns : goal.returns
returns c = restarted_as c.args.self.now _ _ c.requires c.send_all.ensures c.clear.ensures
