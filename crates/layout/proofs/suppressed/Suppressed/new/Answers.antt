use Rattle.std.proofs.Common.{ℕ, get_or, arith, w8, Fits, rules}
use Rattle.layout.specs.LimitsLemmas.{at_most_from}
use Rattle.layout.proofs.suppressed.Suppressed.new.Goals as goal

pub invariant_of-result-clause-bytes : goal.invariant_of-result-clause-bytes
invariant_of-result-clause-bytes c =
    let fits : (k : ℕ) → Fits w8 (get_or c.args.values k 0) = λ k. search rules in
    at_most_from 255 c.args.values (λ k. omega (arith, (fits k).fits))
