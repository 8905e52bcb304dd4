use Rattle.std.proofs.Common.{get_or, ap, ◌∙◌, arith, length-set}
use Rattle.layout.specs.Event.{words}
use Rattle.layout.specs.Limits.{at_most}
use Rattle.strips.specs.Fibre.{numbers}
use Rattle.strips.proofs.Forming.{numbers_most, taken, taken_is, fill_more, number_at, numbers_are}
use Rattle.strips.proofs.record.sample_words.Goals as goal

pub loop-place-preserved : goal.loop-place-preserved
loop-place-preserved c = (
  simp length-set c.loop-place.invariant.0,
  fill_more (λ k. get_or (numbers c.args.samples.now) k 0) c.loop-place.list c.loop-place.place 0 c.value.result
      (number_at c.args.samples.now c.loop-place.place c.index-samples-place.result c.value.result (omega (arith, c.told-samples)) c.value.ensures)
      (omega (arith, c.loop-place.invariant.0)) c.loop-place.invariant.1,
)

pub unwrap-requires : goal.unwrap-requires
unwrap-requires c =
    let same = numbers_are c.args.samples.now c.loop-place.list c.told-samples c.loop-place.invariant.0 (λ k h. c.loop-place.invariant.1 k (omega arith)) in
    taken c.new.result _ _ c.new.ensures (ap (at_most 1023) same ∙ numbers_most c.args.samples.now)

pub returns : goal.returns
returns c =
    let same = numbers_are c.args.samples.now c.loop-place.list c.told-samples c.loop-place.invariant.0 (λ k h. c.loop-place.invariant.1 k (omega arith)) in
    taken_is _ c.unwrap.result _ _ c.new.ensures c.unwrap.ensures ∙ ap words same
