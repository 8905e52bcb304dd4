use Rattle.std.proofs.Common.{◌<◌, length, ap, ◌∙◌, arith}
use Rattle.strips.proofs.Estimates.{can_ask, some_left, answers}
use Rattle.strips.proofs.common_mode.common_mode.Goals as goal

pub unwrap-requires : goal.unwrap-requires
unwrap-requires g c =
    let values = c.as_slice.result.now in
    let some : 0 < length values = omega (arith, ap length c.as_slice.ensures.value, some_left _ c.if-is_empty.ensures) in
    answers c.estimate.result _ _ c.estimate.ensures
    (λ e turned_down.
    turned_down.0
    (can_ask c.args.settings.now c.args.flats.now.values values c.args.fibre.index c.args.side c.chip-chip.result c.args.fibre.below c.chip-chip.ensures
    c.args.flats.now.ten_bits (c.as_slice.ensures.value ∙ c.counted_values-values.ensures) some c.as_slice.ensures.fits))
