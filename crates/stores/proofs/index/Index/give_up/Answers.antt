use Rattle.std.proofs.Common.{◌+◌, ◌-◌, ◌*◌, set, sym, refl, ap, ap₂, ◌∙◌, arith}
use Rattle.stores.specs.declared.queue.Queue.{Queue}
use Rattle.stores.specs.Places.{level_at, wrapped}
use Rattle.stores.specs.Sound.{level_in}
use Rattle.stores.proofs.Calls.{released}
use Rattle.stores.proofs.Lists.{fibre_parts, take_short}
use Rattle.stores.proofs.index.Index.give_up.Goals as goal

pub returns-then-count-level : goal.returns-then-count-level
returns-then-count-level c =
    let ix = c.args.self.now in
    let f = c.args.fibre in
    let at = fibre_parts _ _ _ c.in_ok-start.ensures in
    let level = ap (λ (q : Queue). q.level) at.1 in
    record {
      answer = λ cells. rw (level_in ix cells f) (sym (take_short (level_at ix f) f c.args.count at.0 (omega arith)));
      lists = λ _. refl;
      room = refl;
    }

pub returns : goal.returns
returns c =
    let ix = c.args.self.now in
    let f = c.args.fibre in
    let n = c.args.count in
    let at = fibre_parts _ _ _ c.in_ok-start.ensures in
    let start = ap (λ (q : Queue). q.start) at.1 in
    let level = ap (λ (q : Queue). q.level) at.1 in
    released ix _ f n c.stretch.result
    (record {
      fibre = at.0;
      waits = omega arith;
      queues = ap₂ (λ s l. set ix.queues f (record { start = s; level = l - n })) (c.wrapped.ensures ∙ ap (λ s. wrapped ix.capacity (s + n)) start) level;
      room = refl;
    })
    (record {
      first = c.stretch.ensures.first;
      end = c.stretch.ensures.end;
      place = c.stretch.ensures.place ∙ ap (λ s. f * ix.capacity + s) start;
    })
