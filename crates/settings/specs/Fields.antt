-- The fields of a setting word.
-- Assumes nothing.
use Rattle.std.specs.Prelude.{ℕ, ◌+◌, ◌-◌, ◌/◌, ◌%◌, ◌^◌, Bool, cond, ◌==◌}

-- the bits of a word from `high` down to `low`, as a number
abbrev pub bits : ℕ → ℕ → ℕ → ℕ
bits high low word = word / 2 ^ low % 2 ^ (high + 1 - low)

-- the bit at one place, as a flag
abbrev pub flag : ℕ → ℕ → Bool
flag place word = bits place place word == 1

-- the bit that stands for a flag
abbrev pub bit : Bool → ℕ
bit b = cond b 1 0

-- a word's kind is its top four bits
abbrev pub kind : ℕ → ℕ
kind word = bits 31 28 word

-- kinds 2 to 5 have a fibre
abbrev pub fibre_field : ℕ → ℕ
fibre_field word = bits 27 24 word

-- kind 1: the mode
abbrev pub mode_field : ℕ → ℕ
mode_field word = bits 4 0 word

-- kind 4: the two thresholds
abbrev pub thresh1_field : ℕ → ℕ
thresh1_field word = bits 7 0 word

abbrev pub thresh2_field : ℕ → ℕ
thresh2_field word = bits 15 8 word
