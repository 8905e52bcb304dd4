use Rattle.std.proofs.Common.{ap, ◌∙◌, arith}
use Rattle.std.specs.Result.{is_ok}
use Rattle.card.proofs.Fibres.{upto_all}
use Rattle.card.proofs.Losing.{put_by, put_goes}
use Rattle.card.proofs.putting.put_records.Goals as goal

pub unwrap-requires : goal.unwrap-requires
unwrap-requires g c =
    let s = g.S.Store in
    ap is_ok
    (c.put_all.ensures.answer
    ∙ put_goes (s.lists c.args.store.now) c.args.records.now (s.room c.loop-f.store) (s.lists c.loop-f.store) c.loop-f.f _ _
    (omega arith) (omega arith) (λ f h. omega (arith, c.requires f h, c.loop-f.invariant.0)) c.loop-f.invariant.1 c.as_slice.ensures)

pub returns-clause-lists : goal.returns-clause-lists
returns-clause-lists g c =
    let s = g.S.Store in
    upto_all (put_by (s.lists c.args.store.now) c.args.records.now) _ _ c.loop-f.f (s.lists c.loop-f.store) (omega arith)
    (g.met.S.Store.sound c.loop-f.store).twelve c.loop-f.invariant.1
