use Rattle.std.proofs.Common.{◌+◌, ◌*◌, set, sym, refl, ap, ◌∙◌, arith}
use Rattle.stores.specs.declared.queue.Queue.{Queue}
use Rattle.stores.specs.Places.{level_at, wrapped}
use Rattle.stores.specs.Sound.{level_in}
use Rattle.stores.proofs.Calls.{granted}
use Rattle.stores.proofs.Lists.{fibre_parts, put_full}
use Rattle.stores.proofs.index.Index.room_for.Goals as goal

pub returns-then-count-self : goal.returns-then-count-self
returns-then-count-self c =
    let ix = c.args.self.now in
    let f = c.args.fibre in
    let at = fibre_parts _ _ _ c.in_ok-start.ensures in
    let level = ap (λ (q : Queue). q.level) at.1 in
    record {
      answer = λ cells. rw (level_in ix cells f) (sym (put_full ix.capacity (level_at ix f) f c.args.count at.0 (omega arith)));
      lists = λ _. refl;
      room = refl;
    }

pub returns : goal.returns
returns c =
    let ix = c.args.self.now in
    let f = c.args.fibre in
    let n = c.args.count in
    let at = fibre_parts _ _ _ c.in_ok-start.ensures in
    let level = ap (λ (q : Queue). q.level) at.1 in
    let most = ix.levels f in
    granted ix _ f n c.stretch.result
    (record {
      fibre = at.0;
      fits = omega arith;
      queues = ap (λ (q : Queue). set ix.queues f (record { start = q.start; level = q.level + n })) at.1;
      room = refl;
    })
    (record {
      first = c.stretch.ensures.first;
      end = c.stretch.ensures.end;
      place = c.stretch.ensures.place ∙ ap (λ w. f * ix.capacity + w) (c.wrapped.ensures ∙ ap (λ (q : Queue). wrapped ix.capacity (q.start + q.level)) at.1);
    })
