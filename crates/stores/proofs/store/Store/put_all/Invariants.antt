use Rattle.std.proofs.Common.{◌≡◌, take}
use Rattle.stores.specs.Store.{appended}
use Rattle.stores.proofs.store.Store.put_all.Given as goal

abbrev pub invariant-loop-byte : goal.invariant-loop-byte
invariant-loop-byte g l =
    let s = g.Self.Store in
    record {
      lists : s.lists l.self ≡ appended (s.lists l.initial.self) l.fibre (take l.byte-index l.bytes);
      room : s.room l.self ≡ s.room l.initial.self;
    }
