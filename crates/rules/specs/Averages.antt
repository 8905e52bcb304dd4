-- The mean lies between the lowest and the highest value.
-- Assumes nothing.
use Rattle.std.specs.Prelude.{ℕ, suc, ◌*◌, ◌≤◌, List, [], ◌∷◌, length, sum}
use Rattle.std.proofs.Math.Nat.{div-le_of_le-mul}
use Rattle.std.proofs.Common.{mul_comm, suc-mul, arith}
use Rattle.std.specs.List.{AllByRecursion}
use Rattle.std.proofs.lemmas.Nat.{le-div}
use Rattle.std.proofs.lemmas.List.Sums.{sum_by-cons}
use Rattle.std.proofs.ByRecursion.{sum_by_le}
use Rattle.rules.specs.Rules.{InRange, StaysBetween, mean}

least_sum : (low : ℕ) (vs : List ℕ) → AllByRecursion (λ v. low ≤ v) vs → low * length vs ≤ sum vs
least_sum low [] h = omega arith
least_sum low (v ∷ vs) h = rw (sum_by-cons (λ x. x) v vs) (omega (arith, least_sum low vs h.1, h.0, mul_comm low (length vs), mul_comm low (suc (length vs)), suc-mul (length vs) low))

pub mean_above : (low : ℕ) (vs : List ℕ) → 1 ≤ length vs → AllByRecursion (λ v. low ≤ v) vs → low ≤ mean 0 0 vs
mean_above low vs some h = le-div low (sum vs) (length vs) (omega arith) (least_sum low vs h)

pub mean_upto : (high : ℕ) (vs : List ℕ) → AllByRecursion (λ v. v ≤ high) vs → mean 0 0 vs ≤ high
mean_upto high vs h = div-le_of_le-mul (length vs) (sum_by_le (λ v. v) high vs h)

pub mean_bounded : (chip setting : ℕ) (vs : List ℕ) → InRange chip vs → mean chip setting vs ≤ 1023
mean_bounded chip setting vs asked = mean_upto 1023 vs asked.ten_bits

pub mean_between : StaysBetween mean
mean_between chip setting low high vs asked above upto = (mean_above low vs asked.some above, mean_upto high vs upto)
