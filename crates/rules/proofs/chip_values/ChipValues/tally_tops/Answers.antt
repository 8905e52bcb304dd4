use Rattle.rules.proofs.Bins.{tops_more}
use Rattle.rules.proofs.chip_values.ChipValues.tally_tops.Goals as goal

pub loop-v-preserved : goal.loop-v-preserved
loop-v-preserved c =
    tops_more c.take.new.self.counts c.args.self.now.values.now c.loop-v.v-index c.from.result c.loop-v-test.true c.from.ensures (c.take.ensures _ c.loop-v.invariant)
