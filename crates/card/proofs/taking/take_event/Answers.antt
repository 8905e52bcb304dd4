use Rattle.std.proofs.Common.{◌≡◌, ◌+◌, ◌-◌, ◌<◌, ◌≤◌, length, get_or, ap, ◌∙◌, arith, rules}
use Rattle.card.proofs.Fetching.{before_more, before_le, lists_before, lists_step, lists_all, written_before, record_step, written_step, written_all, length_part}
use Rattle.card.proofs.taking.take_event.Goals as goal

pub overflow_add-end : goal.overflow_add-end
overflow_add-end g c =
    let more = before_more c.args.lengths.now c.loop-f.f in
    let within = before_le c.args.lengths.now (c.loop-f.f + 1) (omega arith) in
    search rules

pub slice_bounds-take_record-end : goal.slice_bounds-take_record-end
slice_bounds-take_record-end g c =
    let more = before_more c.args.lengths.now c.loop-f.f in
    let within = before_le c.args.lengths.now (c.loop-f.f + 1) (omega arith) in
    search rules

pub loop-f-preserved : goal.loop-f-preserved
loop-f-preserved g c =
    let s = g.S.Store in
    let lengths = c.args.lengths.now in
    let lists = s.lists c.args.store.now in
    let f = c.loop-f.f in
    let at = c.loop-f.at in
    let n = c.from.result in
    let same : n ≡ get_or lengths f 0 = c.from.ensures in
    let more = before_more lengths f in
    let within = before_le lengths (f + 1) (omega arith) in
    let inside : f < length lists = omega (arith, (g.met.S.Store.sound c.args.store.now).twelve) in
    let fits : at + n ≤ length c.loop-f.out = omega arith in
    let count : at + n - at ≡ get_or lengths f 0 = omega arith in
    let long = length_part c.loop-f.out at n fits ∙ same in
    let record-taken = record_step lengths lists f inside _ _ _ c.loop-f.invariant.1 long c.take_record.ensures.out in (
      omega arith,
      lists_step lengths lists f inside _ _ _ c.loop-f.invariant.1 long c.take_record.ensures.lists,
      written_step lengths lists c.args.out.now f at _ _ _ c.loop-f.invariant.0 count c.loop-f.invariant.2 record-taken,
      c.take_record.ensures.room ∙ c.loop-f.invariant.3,
    )

pub returns-clause-lists : goal.returns-clause-lists
returns-clause-lists g c =
    let lengths = c.args.lengths.now in
    let lists = g.S.Store.lists c.args.store.now in
    let end : c.loop-f.f ≡ 12 = omega arith in
    c.loop-f.invariant.1 ∙ (ap (lists_before lengths lists) end ∙ lists_all lengths lists (g.met.S.Store.sound c.args.store.now).twelve)

pub returns-clause-out : goal.returns-clause-out
returns-clause-out g c =
    let lengths = c.args.lengths.now in
    let lists = g.S.Store.lists c.args.store.now in
    let end : c.loop-f.f ≡ 12 = omega arith in
    c.loop-f.invariant.2 ∙ (ap (written_before lengths lists c.args.out.now) end ∙ written_all lengths lists c.args.out.now)
