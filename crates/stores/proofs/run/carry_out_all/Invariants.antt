use Rattle.stores.proofs.Runs.{Upto}
use Rattle.stores.proofs.run.carry_out_all.Given as goal

abbrev pub invariant-loop-i : goal.invariant-loop-i
invariant-loop-i g l =
    let s = g.S.Store in
    Upto (s.room l.initial.store) (s.lists l.initial.store) l.calls l.initial.answers l.i (s.room l.store) (s.lists l.store) l.answers
