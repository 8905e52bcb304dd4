use Rattle.std.proofs.Common.{◌≡◌, take}
use Rattle.stores.specs.Cells.{Filled}
use Rattle.stores.proofs.memory.Memory.fill.Given as goal

abbrev pub invariant-loop-i : goal.invariant-loop-i
invariant-loop-i g l =
    let m = g.Self.Memory in
    record {
      cells : Filled (m.cells l.initial.self) (m.cells l.self) l.place (take l.i l.bytes);
      places : m.places l.self ≡ m.places l.initial.self;
    }
