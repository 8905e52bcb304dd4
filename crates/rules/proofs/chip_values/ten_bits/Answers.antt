use Rattle.std.proofs.Common.{◌≡◌, max, rules, arith}
use Rattle.std.specs.List.{fold}
use Rattle.std.proofs.lemmas.Bool.{leb-true, le-leb}
use Rattle.rules.proofs.Bounds.{below_highest, highest_below}
use Rattle.rules.proofs.chip_values.ten_bits.Goals as goal

pub returns : goal.returns
returns c =
    let vs = c.args.values.now in
    let highest : c.fold.result ≡ fold max 0 vs = search rules in
    (λ e. (below_highest 1023 0 vs (rw (← highest) (leb-true c.fold.result 1023 e))).1, λ all. rw highest (le-leb (fold max 0 vs) 1023 (highest_below 1023 0 vs (omega arith) all)))
