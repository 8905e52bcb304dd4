use Rattle.std.proofs.Common.{take}
use Rattle.rules.specs.Bins.{Tallies, tops}
use Rattle.rules.proofs.chip_values.ChipValues.tally_tops.Given as goal

abbrev pub invariant-loop-v : goal.invariant-loop-v
invariant-loop-v l = Tallies l.tally.counts (tops (take l.v-index l.v-items))
