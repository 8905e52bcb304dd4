-- What belongs and what a cluster is, in the words of whoever looks for hits.
-- Assumes nothing.
use Rattle.std.specs.Prelude.{◌≡◌, ℕ, suc, ◌+◌, ◌-◌, ◌<◌, ◌≤◌, Bool, true, false, ◌&&◌, ◌||◌, List, ◌∷◌, length, get_or, sum_by, nat_lt, slice_index_or}
use Rattle.std.specs.List.{ContainsAt}
use Rattle.layout.specs.declared.run.Run.{Run}
use Rattle.layout.specs.Places.{spaced}
use Rattle.clusters.specs.declared.reached.Reached.{Reached}
use Rattle.clusters.specs.Patterns.{nothing, belongs}
use Rattle.clusters.specs.Clusters.{runs_from, chip_runs, cluster_runs}

-- what a strip of a chip reaches, and what the strip before it does; beyond the chip's ends nothing is reached
abbrev pub at : List Reached → ℕ → Reached
at strips n = slice_index_or strips n nothing

abbrev pub before : List Reached → ℕ → Reached
before strips n = slice_index_or (nothing ∷ strips) n nothing

-- a strip is a hit if it reaches thresh2, or if it and a neighbour on its chip both reach thresh1
abbrev pub hit : List Reached → ℕ → Bool
hit strips n =
    (at strips n).thresh2 || ((at strips n).thresh1 && ((before strips n).thresh1 || (at strips (n + 1)).thresh1))

-- a strip has two neighbours on its chip, and both are hits
abbrev pub between_hits : List Reached → ℕ → Bool
between_hits strips n =
    (nat_lt 0 n && nat_lt (n + 1) (length strips)) && (hit strips (n - 1) && hit strips (n + 1))

-- a strip belongs if and only if it is a hit or lies between two hits
abbrev pub BelongsByHits : Type 0
BelongsByHits =
    (strips : List Reached) (n : ℕ) → n < length strips → belongs strips n ≡ (hit strips n || between_hits strips n)

-- a run of strips of a chip that belong, which the strips before and behind it do not lengthen; the chip's first strip has an address
pub record Longest (first : ℕ) (belonging : List Bool) (r : Run) : Type 0 where
  pub some : 1 ≤ r.strips
  pub from : first ≤ r.address
  pub within : r.address + r.strips ≤ first + length belonging
  pub all : (k : ℕ) → k < r.strips → slice_index_or belonging (r.address - first + k) false ≡ true
  pub none_before : (k : ℕ) → first + suc k ≡ r.address → slice_index_or belonging k false ≡ false
  pub none_behind : get_or belonging (r.address - first + r.strips) false ≡ false

-- the clusters of a chip are just the longest runs
abbrev pub ClustersAreLongestRuns : Type 0
ClustersAreLongestRuns =
    (first : ℕ) (belonging : List Bool) (r : Run)
    → (ContainsAt (runs_from first 0 belonging) r → Longest first belonging r)
    × (Longest first belonging r → ContainsAt (runs_from first 0 belonging) r)

-- the clusters of a fibre lie in strip order within their chips, with two free strips between two of one chip
abbrev pub ClustersInPlace : Type 0
ClustersInPlace = (strips : List Reached) → length strips ≡ 256 → spaced (cluster_runs strips) ≡ true

-- the clusters of a chip take at most 130 bytes: two for each, and one for each of its strips
abbrev pub AtMost130Bytes : Type 0
AtMost130Bytes =
    (first : ℕ) (strips : List Reached) → length strips ≡ 128 → sum_by (λ r. 2 + r.strips) (chip_runs first strips) ≤ 130

abbrev pub Laws : Type 0
Laws = BelongsByHits × ClustersAreLongestRuns × ClustersInPlace × AtMost130Bytes
