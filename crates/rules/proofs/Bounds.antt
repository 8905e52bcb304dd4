-- The highest of some values, as a fold, and what bounds each of them.
-- Assumes nothing.
use Rattle.std.proofs.Common.{ℕ, ◌≤◌, max, List, [], ◌∷◌, arith}
use Rattle.std.specs.List.{fold, AllByRecursion}

pub below_highest : (top h : ℕ) (vs : List ℕ) → fold max h vs ≤ top → (h ≤ top) × AllByRecursion (λ v. v ≤ top) vs
below_highest top h [] le = (le, tt)
below_highest top h (v ∷ vs) le = let (here, rest) = below_highest top (max h v) vs le in (omega arith, (omega arith, rest))

pub highest_below : (top h : ℕ) (vs : List ℕ) → h ≤ top → AllByRecursion (λ v. v ≤ top) vs → fold max h vs ≤ top
highest_below top h [] le all = le
highest_below top h (v ∷ vs) le all = highest_below top (max h v) vs (omega (arith, all.0)) all.1
