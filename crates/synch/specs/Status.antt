-- The status words of a card's fibres.
-- Assumes nothing.
use Rattle.std.specs.Prelude.{ℕ, ◌+◌, ◌-◌, ◌*◌, ◌/◌, ◌%◌, ◌^◌, Bool, cond, ◌&&◌, List, map, ◌==◌, nat_lt}
use Rattle.std.specs.List.{range_with_len}
use Rattle.terms.specs.declared.pair.Side.{Side}
use Rattle.terms.specs.declared.pair.Side.TheVariants.{Left, Right}
use Rattle.terms.specs.Terms.{part}
use Rattle.synch.specs.declared.standing.Standing.{Standing}
use Rattle.synch.specs.declared.words.StatusWords.{StatusWords}
use Rattle.synch.specs.Vote.{votes, one_if}

-- a chip votes, and its header is the given one
abbrev pub header_equal : ℕ → Standing → Side → Bool
header_equal h x side = votes x side && part x.header.bytes side == h

-- a chip votes, and its error bit is good
abbrev pub error_good : Standing → Side → Bool
error_good x side = votes x side && part x.header.good side

-- the status word of a fibre beside a header: six bits, in lock the highest
abbrev pub status_word : ℕ → Standing → ℕ
status_word h x =
    32 * one_if x.in_lock + 16 * one_if x.in_step
    + 8 * one_if (header_equal h x Left) + 4 * one_if (error_good x Left)
    + 2 * one_if (header_equal h x Right) + one_if (error_good x Right)

-- one of six words that stand side by side in a machine word, the lowest first
abbrev pub sixth : ℕ → ℕ → ℕ
sixth n place = n / 2 ^ (6 * place) % 64

-- the word of a fibre in a record of twelve
abbrev pub word_of : StatusWords → ℕ → ℕ
word_of w f = cond (nat_lt f 6) (sixth w.first f) (sixth w.second (f - 6))

-- the twelve words of a record, fibre 0's first
abbrev pub words : StatusWords → List ℕ
words w = map (word_of w) (range_with_len 0 12)
