use Rattle.std.proofs.Common.{◌≡◌}
use Rattle.card.proofs.Fetching.{before, lists_before, written_before}
use Rattle.card.proofs.taking.take_event.Given as goal

abbrev pub invariant-loop-f : goal.invariant-loop-f
invariant-loop-f g l =
    let s = g.S.Store in
    (l.at ≡ before l.lengths l.f)
    × (s.lists l.store ≡ lists_before l.lengths (s.lists l.initial.store) l.f)
    × (l.out ≡ written_before l.lengths (s.lists l.initial.store) l.initial.out l.f)
    × (s.room l.store ≡ s.room l.initial.store)
