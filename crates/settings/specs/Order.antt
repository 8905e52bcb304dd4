-- When the two thresholds of a strip are in order.
-- Assumes nothing.
use Rattle.std.specs.Prelude.{ℕ, Bool, ◌&&◌, ◌||◌, ◌==◌, nat_lt}

-- thresh2 is above thresh1, or both are 255
abbrev pub in_order : ℕ → ℕ → Bool
in_order thresh1 thresh2 = nat_lt thresh1 thresh2 || (thresh1 == 255 && thresh2 == 255)
