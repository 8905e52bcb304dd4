use Rattle.std.proofs.Common.{length, drop, arith}
use Rattle.stores.proofs.Runs.{upto_more, upto_all, in_order}
use Rattle.stores.proofs.run.carry_out_all.Goals as goal

pub loop-i-preserved : goal.loop-i-preserved
loop-i-preserved g c =
    let did = c.carry_out.ensures in
    upto_more _ _ c.args.calls.now c.args.answers.now c.loop-i.i _ _ c.loop-i.answers _ _ _ _ c.loop-i.invariant c.loop-i-test.true (omega arith) did.answer did.lists did.room

pub returns-clause-order : goal.returns-clause-order
returns-clause-order g c =
    let s = g.S.Store in
    let before = c.args.store.now in
    let calls = c.args.calls.now in
    let ran = upto_all (s.room before) (s.lists before) calls c.args.answers.now c.loop-i.i _ _ c.loop-i.answers c.loop-i.invariant (omega arith) in
    λ _. rw (ran.answers, ran.lists_then) (in_order calls (s.lists before) (s.room before) (drop (length calls) c.args.answers.now) (g.met.S.Store.sound before).twelve)
