-- The words of a line.
-- Assumes nothing.
use Rattle.std.specs.Prelude.{◌≡◌, ℕ, ◌<◌, ◌≤◌, Bool, true, false, ◌||◌, List, ◌++◌, length, drop, ◌==◌, slice_index}

-- a space or a tab stands between words
abbrev pub separates : ℕ → Bool
separates b = b == 32 || b == 9

-- the line has no word: it holds nothing but separators
abbrev pub NoWord : List ℕ → Type 0
NoWord line = (k : ℕ) → k < length line → separates (slice_index line k) ≡ true

-- the first word of a line, and what lies behind it: in front of the word stand separators alone; it has a
-- character and no separator, and what lies behind it is nothing or begins with a separator
pub record FirstWord (line word rest : List ℕ) : Type 0 where
  pub gap : ℕ
  pub inside : gap ≤ length line
  pub spaces : (k : ℕ) → k < gap → separates (slice_index line k) ≡ true
  pub parts : drop gap line ≡ word ++ rest
  pub some : 0 < length word
  pub letters : (k : ℕ) → k < length word → separates (slice_index word k) ≡ false
  pub apart : 0 < length rest → separates (slice_index rest 0) ≡ true
