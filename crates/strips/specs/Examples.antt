-- Worked examples: where strips come, their values, and their clusters.
-- Assumes nothing.
use Rattle.std.specs.Prelude.{◌≡◌, ℕ, true, [], ◌∷◌, ◌++◌, map, replicate}
use Rattle.layout.specs.declared.run.Run.{Run}
use Rattle.clusters.specs.declared.reached.Reached.{Reached}
use Rattle.clusters.specs.Clusters.{cluster_runs}
use Rattle.strips.specs.Order.{strip_at}
use Rattle.strips.specs.Values.{flat, reduced, reaches}

-- places 1, 8, 33 and 255 are strips 128, 8, 129 and 255
abbrev pub StripsAtPlaces : Type 0
StripsAtPlaces = (strip_at 1 ≡ 128) × (strip_at 8 ≡ 8) × (strip_at 33 ≡ 129) × (strip_at 255 ≡ 255)

-- with pedestal 100, off scale stays 1023, and below the pedestal the flat value is 0
abbrev pub FlatValues : Type 0
FlatValues = (flat 100 1023 ≡ 1023) × (flat 100 1022 ≡ 922) × (flat 100 99 ≡ 0)

-- with common mode 100, the reduced values go up to 254, and off scale is 255
abbrev pub ReducedValues : Type 0
ReducedValues =
    (reduced true 100 353 ≡ 253) × (reduced true 100 354 ≡ 254) × (reduced true 100 99 ≡ 0) × (reduced true 100 1023 ≡ 255)

-- what a strip that counts reaches with a reduced value, where its thresholds are 10 and 20
abbrev pub reached_at : ℕ → Reached
reached_at value = record { thresh1 = reaches true 10 value; thresh2 = reaches true 20 value }

abbrev run : ℕ → ℕ → Run
run a n = record { address = a; strips = n }

-- a lone 19 is no hit, and neither is the strip between it and a 20; a strip between two hits belongs
abbrev pub ClustersOfValues : Type 0
ClustersOfValues =
    cluster_runs (map reached_at (0 ∷ 10 ∷ 10 ∷ 0 ∷ 20 ∷ 0 ∷ 0 ∷ 19 ∷ 0 ∷ 20 ∷ replicate 246 0)) ≡ run 1 4 ∷ run 9 1 ∷ []

-- two clusters where strips 127 and 128 reach thresh2: they lie on two chips
abbrev pub ClustersOfTwoChips : Type 0
ClustersOfTwoChips =
    cluster_runs (map reached_at (replicate 127 0 ++ 20 ∷ 20 ∷ replicate 127 0)) ≡ run 127 1 ∷ run 128 1 ∷ []

abbrev pub WorkedExamples : Type 0
WorkedExamples = StripsAtPlaces × FlatValues × ReducedValues × ClustersOfValues × ClustersOfTwoChips
