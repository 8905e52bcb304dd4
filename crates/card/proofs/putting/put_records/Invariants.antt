use Rattle.std.proofs.Common.{◌≡◌, []}
use Rattle.card.proofs.Fibres.{Upto}
use Rattle.card.proofs.Losing.{put_by}
use Rattle.card.proofs.putting.put_records.Given as goal

abbrev pub invariant-loop-f : goal.invariant-loop-f
invariant-loop-f g l =
    let s = g.S.Store in
    (s.room l.store ≡ s.room l.initial.store) × Upto (put_by (s.lists l.initial.store) l.records) [] (s.lists l.initial.store) l.f (s.lists l.store)
