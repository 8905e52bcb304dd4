use Rattle.std.proofs.Common.{ap, ◌∙◌, arith, length-set}
use Rattle.strips.specs.Fibre.{numbers, flat_value}
use Rattle.layout.specs.Limits.{at_most}
use Rattle.strips.proofs.Forming.{flats_most}
use Rattle.strips.proofs.Scattering.{filled_more, filled_all, flat_at_place}
use Rattle.strips.proofs.flat.flat_values.Goals as goal

pub loop-place-preserved : goal.loop-place-preserved
loop-place-preserved c = (
  simp length-set c.loop-place.invariant.0,
  filled_more (flat_value c.args.settings.now (numbers c.args.samples.now)) c.loop-place.flats c.loop-place.place
      c.from-strip.result c.flat_value.result c.loop-place.invariant.0 (omega arith) (c.from-strip.ensures ∙ c.strip_of_place.ensures)
      (flat_at_place c.args.settings.now c.args.samples.now c.loop-place.place c.from-strip.result c.flat_value.result
      c.index-samples-place.result (omega arith) (omega arith) (c.from-strip.ensures ∙ c.strip_of_place.ensures)
      c.flat_value.ensures)
      c.loop-place.invariant.1,
)

pub invariant_of-result : goal.invariant_of-result
invariant_of-result c =
    let fibre = c.args.settings.now in
    let samples = c.args.samples.now in
    let whole = filled_all (flat_value fibre (numbers samples)) c.loop-place.flats c.loop-place.place c.loop-place.invariant.0 (omega arith) c.loop-place.invariant.1 in
    record { ten_bits = ap (at_most 1023) whole ∙ flats_most fibre samples }

pub returns : goal.returns
returns c =
    filled_all (flat_value c.args.settings.now (numbers c.args.samples.now)) c.loop-place.flats c.loop-place.place
    c.loop-place.invariant.0 (omega arith) c.loop-place.invariant.1
