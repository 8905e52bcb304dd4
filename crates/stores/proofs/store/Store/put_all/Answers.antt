use Rattle.std.proofs.Common.{refl, ◌∙◌, arith}
use Rattle.stores.proofs.Lists.{fibre_parts, put_next}
use Rattle.stores.proofs.store.Store.put_all.Goals as goal

pub loop-byte-preserved : goal.loop-byte-preserved
loop-byte-preserved g c =
    let before = c.args.self.now in
    let at = fibre_parts _ _ _ c.in_ok-level.ensures in
    let twelve = (g.met.Self.Store.sound before).twelve in
    let was = c.loop-byte.invariant in
    let now = rw was.lists at c.in_ok-put.ensures.lists in
    record {
      lists = now ∙ put_next (g.Self.Store.lists before) c.args.fibre c.loop-byte.byte-index _ c.args.bytes.now (omega arith) c.loop-byte-test.true refl;
      room = c.in_ok-put.ensures.room ∙ was.room;
    }
