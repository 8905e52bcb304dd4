use Rattle.std.proofs.Common.{◌+◌, ◌-◌, length, arith}
use Rattle.stores.proofs.Pieces.{bytes_filled}
use Rattle.stores.proofs.memory.bytes.RefMutSliceU8Memory.fill.Goals as goal

pub returns-clause-cells : goal.returns-clause-cells
returns-clause-cells c =
    let p = c.args.place in
    bytes_filled p (p + length c.args.bytes.now - p) c.args.self.now.now c.copy_from_slice.new.self (omega arith) (omega arith)
    c.args.bytes.now c.copy_from_slice.ensures.after (λ i. omega (arith, c.type_inv.bytes i))
