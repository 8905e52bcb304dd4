-- The fixed rule stays in range.
-- Assumes nothing.
use Rattle.std.specs.Prelude.{ℕ, ◌≤◌, List}
use Rattle.std.proofs.Common.{arith}
use Rattle.rules.specs.Rules.{InRange, fixed}

-- whatever the 24 numbers, the answer is at most 1023
pub fixed_bounded : (numbers : List ℕ) (chip setting : ℕ) (vs : List ℕ) → InRange chip vs → fixed numbers chip setting vs ≤ 1023
fixed_bounded numbers chip setting vs asked = omega arith
