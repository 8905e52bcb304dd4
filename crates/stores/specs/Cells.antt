-- A row of places that hold a byte each, as a function from the place.
-- Assumes nothing.
use Rattle.std.specs.Prelude.{◌≡◌, ℕ, ◌+◌, ◌-◌, ◌*◌, ◌/◌, ◌%◌, ◌^◌, ◌<◌, cond, ◌≢◌, List, length, nat_lt, slice_index}
use Rattle.std.proofs.Common.{arith}

-- the byte at a place of a row of bytes
abbrev pub byte_cell : List ℕ → ℕ → ℕ
byte_cell bytes p = slice_index bytes p % 256

-- byte k of a word, the lowest first: its bits from 8k on
abbrev pub byte_of : ℕ → ℕ → ℕ
byte_of word k = word / 2 ^ (8 * k) % 2 ^ 8

-- the byte at a place of a row of words, four to a word, the lowest first
abbrev pub word_cell : List ℕ → ℕ → ℕ
word_cell words p = byte_of (slice_index words (p / 4)) (p % 4)

-- each of them is a byte
pub byte_cell_small : (bytes : List ℕ) (p : ℕ) → byte_cell bytes p < 256
byte_cell_small bytes p = omega arith

pub word_cell_small : (words : List ℕ) (p : ℕ) → word_cell words p < 256
word_cell_small words p = omega arith

-- a byte was written at a place, and nowhere else
pub record Written (cells cells' : ℕ → ℕ) (p b : ℕ) : Type 0 where
  pub here : cells' p ≡ b
  pub there : (q : ℕ) → q ≢ p → cells' q ≡ cells q

-- bytes were written from a place on, and nowhere else
pub record Filled (cells cells' : ℕ → ℕ) (p : ℕ) (bytes : List ℕ) : Type 0 where
  pub here : (k : ℕ) → k < length bytes → cells' (p + k) ≡ slice_index bytes k
  pub there : (q : ℕ) → ((k : ℕ) → k < length bytes → q ≢ p + k) → cells' q ≡ cells q

-- bytes are what lies from a place on
pub record Holds (cells : ℕ → ℕ) (p : ℕ) (bytes : List ℕ) : Type 0 where
  pub each : (k : ℕ) → k < length bytes → slice_index bytes k ≡ cells (p + k)

-- k places on from a place, in the ring of a row from first to end
abbrev pub round : ℕ → ℕ → ℕ → ℕ → ℕ
round first end at k = cond (nat_lt (at + k) end) (at + k) (at + k - end + first)

-- bytes were laid into a ring from a place on, and nowhere else
pub record Laid (cells cells' : ℕ → ℕ) (first end at : ℕ) (bytes : List ℕ) : Type 0 where
  pub here : (k : ℕ) → k < length bytes → cells' (round first end at k) ≡ slice_index bytes k
  pub there : (q : ℕ) → ((k : ℕ) → k < length bytes → q ≢ round first end at k) → cells' q ≡ cells q

-- bytes are what lies in a ring from a place on
pub record Picked (cells : ℕ → ℕ) (first end at : ℕ) (bytes : List ℕ) : Type 0 where
  pub each : (k : ℕ) → k < length bytes → slice_index bytes k ≡ cells (round first end at k)
