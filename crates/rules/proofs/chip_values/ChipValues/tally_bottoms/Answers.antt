use Rattle.std.proofs.Common.{get_or}
use Rattle.rules.proofs.Bins.{bottom_taken, bottoms_more, bottoms_same}
use Rattle.rules.proofs.chip_values.ChipValues.tally_bottoms.Goals as goal
use Rattle.rules.proofs.chip_values.ChipValues.tally_bottoms.Goals.{in-Some, in_default}

pub take-requires : goal.take-requires
take-requires c =
    let vs = c.args.self.now.values.now in
    let (within, room) = bottom_taken c.loop-v.tally.counts vs c.loop-v.v-index c.args.bin (get_or vs c.loop-v.v-index 0) c.in-Some.bits c.loop-v-test.true c.args.self.now.in_range.of_chip c.in-Some.ensures c.loop-v.invariant in
    record { within = within; room = room }

pub loop-v-preserved : goal.loop-v-preserved
loop-v-preserved c = elim c.match-bottom_bits.branch [
  | in-Some w ↦ simp w.tally-is (bottoms_more w.take.new.self.counts c.args.self.now.values.now c.loop-v.v-index c.args.bin w.in-Some.bits c.loop-v-test.true w.in-Some.ensures (w.take.ensures _ c.loop-v.invariant))
  | in_default w ↦ simp w.tally-is (bottoms_same c.loop-v.tally.counts c.args.self.now.values.now c.loop-v.v-index c.args.bin c.loop-v-test.true w.in_default.ensures c.loop-v.invariant)
]
