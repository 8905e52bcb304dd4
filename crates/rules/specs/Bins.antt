-- What the two tallies of the rank rule count: values by their top five bits, then by their bottom five.
-- Assumes nothing.
use Rattle.std.specs.Prelude.{◌≡◌, ℕ, ◌/◌, ◌%◌, ◌<◌, List, map, length, count_by, filter, nat_eq, slice_index}

-- counts holds, for each of 32 bins, how many of the values taken so far lie in it; ks are the bins of those values
pub record Tallies (counts ks : List ℕ) : Type 0 where
  pub long : length counts ≡ 32
  pub each : (b : ℕ) → b < 32 → slice_index counts b ≡ count_by (λ k. nat_eq k b) ks

-- the top five bits of the values
abbrev pub tops : List ℕ → List ℕ
tops vs = map (λ v. v / 32) vs

-- the bottom five bits of the values whose top five are b
abbrev pub bottoms : ℕ → List ℕ → List ℕ
bottoms b vs = map (λ v. v % 32) (filter (λ v. nat_eq (v / 32) b) vs)
