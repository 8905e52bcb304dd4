-- Worked examples of setting words.
-- Assumes nothing.
use Rattle.std.specs.Prelude.{◌≡◌, ℕ, true, is_ok, IsErrAnd}
use Rattle.terms.specs.Terms.{number}
use Rattle.settings.specs.Words.{decoded}

-- a word is taken
abbrev pub Taken : ℕ → Type 0
Taken word = is_ok (decoded word) ≡ true

-- a word is refused, with the refusal of a number
abbrev pub Gets : ℕ → ℕ → Type 0
Gets word n = IsErrAnd (decoded word) (λ refusal. number refusal ≡ n)

abbrev pub WorkedExamples : Type 0
WorkedExamples =
    Taken 0x1000000A
    × Gets 0x1000000B 5
    × Gets 0x60000000 2
    × Gets 0x2C000000 3
    × Gets 0x40000A0A 6
    × Taken 0x4000FFFF
    -- kind 1 has no fibre: bits 27 to 24 are unused
    × Gets 0x1C00000A 4
    -- thresh2 255 above any lower thresh1
    × Taken 0x4000FF10
