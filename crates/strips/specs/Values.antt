-- The values of one strip: from its sample to its reduced value, and the thresholds that this reaches.
-- Assumes nothing.
use Rattle.std.specs.Prelude.{ℕ, ◌-◌, min, Bool, cond, ◌&&◌, ◌==◌, nat_le, nat_lt}

-- a sample, turned around on an inverted fibre
abbrev pub turned : Bool → ℕ → ℕ
turned complement sample = cond complement (1023 - sample) sample

-- the flat value: off scale stays 1023, else the pedestal is taken off, down to 0
abbrev pub flat : ℕ → ℕ → ℕ
flat pedestal u = cond (u == 1023) 1023 (u - pedestal)

-- the reduced value: 0 for a strip that does not count, 255 off scale, else the flat value less the common mode, at most 254
abbrev pub reduced : Bool → ℕ → ℕ → ℕ
reduced counts mode value = cond counts (cond (value == 1023) 255 (min (value - mode) 254)) 0

-- a strip reaches a threshold below 255 if it counts and its reduced value is at least that
abbrev pub reaches : Bool → ℕ → ℕ → Bool
reaches counts threshold value = counts && (nat_lt threshold 255 && nat_le threshold value)
