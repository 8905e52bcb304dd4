use Rattle.std.proofs.Common.{◌≡◌, sum, arith, rules}
use Rattle.rules.specs.Averages.{mean_upto}
use Rattle.rules.proofs.chip_values.ChipValues.mean.Goals as goal

pub overflow_cast-result : goal.overflow_cast-result
overflow_cast-result c =
    let vs = c.args.self.now.values.now in
    let whole : c.sum-total.result ≡ sum vs = search rules in
    rw whole (omega (arith, mean_upto 1023 vs c.args.self.now.in_range.ten_bits))
