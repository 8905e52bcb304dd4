use Rattle.std.proofs.Common.{◌∙◌, arith}
use Rattle.stores.proofs.Lists.{fibre_parts, ok_parts, without_more, take_next}
use Rattle.stores.proofs.store.Store.take_all.Goals as goal

pub loop-slot-preserved : goal.loop-slot-preserved
loop-slot-preserved g c =
    let before = c.args.self.now in
    let lists = g.Self.Store.lists before in
    let f = c.args.fibre in
    let i = c.loop-slot.slot-index in
    let at = fibre_parts _ _ _ c.in_ok-level.ensures in
    let twelve = (g.met.Self.Store.sound before).twelve in
    let was = c.loop-slot.invariant in
    let now = rw was.lists at c.in_ok-slot.ensures.lists in
    let byte = rw was.lists at (ok_parts _ _ _ c.in_ok-slot.ensures.answer).1 in
    record {
      lists = now ∙ without_more lists f (omega arith) i 1;
      room = c.in_ok-slot.ensures.room ∙ was.room;
      out = rw was.out (take_next lists f i c.in_ok-slot.field-0 c.args.out.now (omega arith) c.loop-slot-test.true (omega arith) byte);
    }
