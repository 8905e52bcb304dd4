-- The lines of a script.
-- Assumes nothing.
use Rattle.std.specs.Prelude.{◌≡◌, ℕ, ◌+◌, ◌-◌, ◌<◌, cond, ◌⊎◌, List, [], Option, None, Some, length, take, drop, ◌==◌, ◌≢◌, slice_index, slice_index_or}

-- a line without the carriage return at its end, if it has one
abbrev pub without_return : List ℕ → List ℕ
without_return line = cond (slice_index line (length line - 1) == 13) (take (length line - 1) line) line

-- the first n characters of a script have no newline, and the next is one: they are the line, but for a
-- carriage return at its end, and what lies behind the newline is the rest
pub record Ended (script line rest : List ℕ) (n : ℕ) : Type 0 where
  pub inside : n < length script
  pub newline : slice_index_or script n 0 ≡ 10
  pub cut : line ≡ without_return (take n script)
  pub behind : rest ≡ drop (n + 1) script

-- a script without a newline is one line, as it stands
pub record Open (script line rest : List ℕ) (n : ℕ) : Type 0 where
  pub whole : n ≡ length script
  pub all : line ≡ script
  pub nothing : rest ≡ []

-- the first line of a script and what lies behind it: n characters up to the first newline, or to the end
abbrev pub FirstLine : List ℕ → List ℕ → List ℕ → Type 0
FirstLine script line rest =
    (n : ℕ) × ((k : ℕ) → k < n → slice_index script k ≢ 10) × (Ended script line rest n ⊎ Open script line rest n)

-- the next of a script's lines is its first line; there is none where nothing is left, and then nothing changes
abbrev pub NextLine : List ℕ → Option (List ℕ) → List ℕ → Type 0
NextLine left None after = (length left ≡ 0) × (after ≡ left)
NextLine left (Some line) after = FirstLine left line after
