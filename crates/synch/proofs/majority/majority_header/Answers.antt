use Rattle.std.proofs.Common.{◌-◌, refl, ap, ◌∙◌, arith}
use Rattle.synch.specs.Vote.{one_if}
use Rattle.synch.proofs.Counts.{byte_room, byte_again, bool_byte-one_if, one_if_le}
use Rattle.synch.proofs.majority.majority_header.Goals as goal

pub overflow_mul-header : goal.overflow_mul-header
overflow_mul-header c = omega (arith, byte_room c.args.fibres.now c.loop-place.place c.loop-place.header c.loop-place-test.true c.loop-place.invariant)

pub overflow_add-header : goal.overflow_add-header
overflow_add-header c =
    omega (
      arith,
      byte_room c.args.fibres.now c.loop-place.place c.loop-place.header c.loop-place-test.true c.loop-place.invariant,
      c.from.ensures,
      bool_byte-one_if c.majority.result,
      one_if_le c.majority.result,
    )

pub loop-place-preserved : goal.loop-place-preserved
loop-place-preserved c =
    byte_again c.args.fibres.now (record { place = c.loop-place.place - 1; below = omega arith }) c.loop-place.place c.loop-place.header c.chips-votes.result c.chips-voters.result c.from.result
    c.loop-place-test.true (omega arith) refl c.loop-place.invariant c.chips-votes.ensures.counted c.chips-voters.ensures.counted (c.from.ensures ∙ bool_byte-one_if c.majority.result ∙ ap one_if c.majority.ensures)
