use Rattle.stores.proofs.Pieces.{laid_in_two}
use Rattle.stores.proofs.memory.Memory.lay.Goals as goal

pub returns-clause-cells : goal.returns-clause-cells
returns-clause-cells g c =
    laid_in_two _ _ _ _ _ _ c.before_end.result _ _ _ c.before_end.ensures c.split_at.ensures.front c.split_at.ensures.back
    c.args.stretch.low c.args.stretch.high c.requires.bytes c.fill.ensures.cells c.fill-2.ensures.cells
