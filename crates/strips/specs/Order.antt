-- In which order the strips of a fibre come down the line.
-- Assumes nothing.
use Rattle.std.specs.Prelude.{◌≡◌, ℕ, ◌+◌, ◌*◌, ◌/◌, ◌%◌, ◌<◌}

-- the channel of a chip that is read n-th
abbrev pub channel : ℕ → ℕ
channel n = 32 * (n % 4) + 8 * (n / 4 % 4) + n / 16

-- the strip at a place of a frame: the two chips take turns, left first, and the right one's strips begin at 128
abbrev pub strip_at : ℕ → ℕ
strip_at k = 128 * (k % 2) + channel (k / 2)

-- the place at which a strip comes
abbrev pub place_of : ℕ → ℕ
place_of s = 2 * (16 * (s % 8) + 4 * (s / 8 % 4) + s % 128 / 32) + s / 128

-- one to one: each of 256 places has its own strip, and each of 256 strips its own place
pub record OneToOne : Type 0 where
  pub strip_below : (k : ℕ) → k < 256 → strip_at k < 256
  pub place_below : (s : ℕ) → s < 256 → place_of s < 256
  pub there_and_back : (k : ℕ) → k < 256 → place_of (strip_at k) ≡ k
  pub back_and_there : (s : ℕ) → s < 256 → strip_at (place_of s) ≡ s
