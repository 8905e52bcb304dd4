use Rattle.std.proofs.Common.{arith}
use Rattle.rules.specs.Bins.{tops, bottoms}
use Rattle.rules.proofs.Bins.{top_enough, bottom_enough, tallies_value}
use Rattle.rules.proofs.chip_values.ChipValues.value_at.Goals as goal

pub find-top-requires : goal.find-top-requires
find-top-requires c =
    record { some = c.requires.some; enough = top_enough c.tally_tops.result.counts c.args.self.now.values.now c.args.position c.requires.within c.args.self.now.in_range.ten_bits c.tally_tops.ensures }

pub overflow_sub-position : goal.overflow_sub-position
overflow_sub-position c =
    let bins = tops c.args.self.now.values.now in
    let has = c.find-top.ensures.found bins c.tally_tops.ensures in
    omega (arith, has.fewer, c.find-top.ensures.before bins c.tally_tops.ensures)

pub find-bottom-requires : goal.find-bottom-requires
find-bottom-requires c =
    let vs = c.args.self.now.values.now in
    let has = c.find-top.ensures.found (tops vs) c.tally_tops.ensures in
    let before = c.find-top.ensures.before (tops vs) c.tally_tops.ensures in
    let (some, enough) = bottom_enough c.tally_bottoms.result.counts vs c.args.position c.find-top.result.bin c.find-top.result.before has before c.tally_bottoms.ensures in
    record { some = some; enough = enough }

pub returns : goal.returns
returns c =
    let vs = c.args.self.now.values.now in
    let has = c.find-top.ensures.found (tops vs) c.tally_tops.ensures in
    let before = c.find-top.ensures.before (tops vs) c.tally_tops.ensures in
    let left = c.find-bottom.ensures.found (bottoms c.find-top.result.bin vs) c.tally_bottoms.ensures in
    tallies_value vs c.args.position c.find-top.result.bin c.find-bottom.result.bin c.find-top.result.before c.requires.some c.requires.within c.find-bottom.ensures.within has before left
