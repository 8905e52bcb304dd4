use Rattle.std.proofs.Common.{map, get_or, take, sym, refl, ap, ◌∙◌, arith}
use Rattle.strips.proofs.Gathering.{none_counted, gathered_none, gathered_more, gathered_all}
use Rattle.strips.proofs.common_mode.counted_values.Goals as goal

pub returns-then-not-has : goal.returns-then-not-has
returns-then-not-has c =
    c.new.ensures
    ∙ sym (ap (map (λ s. get_or c.args.flats.now.values s 0)) (none_counted c.args.settings.now c.args.side (sym c.if-not-has.ensures)))

pub loop-strip-init : goal.loop-strip-init
loop-strip-init c = gathered_none c.args.settings.now c.args.flats.now.values _ c.first_strip-first.result refl

pub loop-strip-preserved : goal.loop-strip-preserved
loop-strip-preserved c =
    gathered_more c.args.settings.now c.args.side c.args.flats.now.values c.loop-strip.row c.first_strip-first.result c.loop-strip.strip
    c.loop-strip.count c.first_strip-first.ensures (sym c.if-not-has.ensures) (omega arith) (omega arith) c.loop-strip.invariant

pub returns : goal.returns
returns c =
    c.truncate.ensures.items
    ∙ ap (take c.loop-strip.count) c.from-values.ensures.0
    ∙ gathered_all c.args.settings.now c.args.side c.args.flats.now.values c.loop-strip.row c.first_strip-first.result c.loop-strip.strip
    c.loop-strip.count c.first_strip-first.ensures (omega arith) c.loop-strip.invariant
