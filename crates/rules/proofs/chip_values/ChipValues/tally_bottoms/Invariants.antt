use Rattle.std.proofs.Common.{take}
use Rattle.rules.specs.Bins.{Tallies, bottoms}
use Rattle.rules.proofs.chip_values.ChipValues.tally_bottoms.Given as goal

abbrev pub invariant-loop-v : goal.invariant-loop-v
invariant-loop-v l = Tallies l.tally.counts (bottoms l.bin (take l.v-index l.v-items))
