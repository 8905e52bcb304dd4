use Rattle.std.proofs.Common.{◌≡◌, ◌++◌, take, drop}
use Rattle.stores.specs.Store.{waiting, without}
use Rattle.stores.proofs.store.Store.take_all.Given as goal

abbrev pub invariant-loop-slot : goal.invariant-loop-slot
invariant-loop-slot g l =
    let s = g.Self.Store in
    record {
      lists : s.lists l.self ≡ without (s.lists l.initial.self) l.fibre l.slot-index;
      room : s.room l.self ≡ s.room l.initial.self;
      out : l.out ≡ take l.slot-index (waiting (s.lists l.initial.self) l.fibre) ++ drop l.slot-index l.initial.out;
    }
