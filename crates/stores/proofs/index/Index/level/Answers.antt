use Rattle.std.proofs.Common.{sym, ap, ◌∙◌}
use Rattle.stores.specs.declared.queue.Queue.{Queue}
use Rattle.stores.specs.Sound.{level_in}
use Rattle.stores.proofs.Lists.{fibre_parts, fibre_some}
use Rattle.stores.proofs.index.Index.level.Goals as goal

pub returns : goal.returns
returns c =
    let at = fibre_parts _ _ _ c.in_ok-queue.ensures in
    λ cells. fibre_some c.args.fibre _ _ at.0 (level_in c.args.self.now cells c.args.fibre ∙ ap (λ (q : Queue). q.level) (sym at.1))
