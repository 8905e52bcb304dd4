use Rattle.std.proofs.Common.{refl, ◌∙◌}
use Rattle.stores.proofs.Pieces.{filled_more}
use Rattle.stores.proofs.memory.Memory.fill.Goals as goal

pub loop-i-preserved : goal.loop-i-preserved
loop-i-preserved g c =
    let at = c.loop-i.invariant in
    record {
      cells = filled_more _ _ _ c.args.place c.loop-i.i _ c.args.bytes.now c.loop-i-test.true at.cells c.set.ensures.cells refl;
      places = c.set.ensures.places ∙ at.places;
    }
