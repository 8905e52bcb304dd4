-- What holds of every record, and records byte by byte.
-- Assumes nothing.
use Rattle.std.specs.Prelude.{◌≡◌, ℕ, ◌≤◌, true, false, List, [], ◌∷◌, length, replicate, Some}
use Rattle.terms.specs.declared.pair.Pair.{Pair}
use Rattle.layout.specs.declared.kind.Kind.{Kind}
use Rattle.layout.specs.declared.kind.Kind.TheVariants.{ZeroSuppressed, ProcessedRaw, VirginRaw}
use Rattle.layout.specs.declared.run.Run.{Run}
use Rattle.layout.specs.Places.{spaced}
use Rattle.layout.specs.Event.{Cluster, Content, suppressed, words, ContentOk, code, kind_of, shortest, longest, record_bytes}

-- each kind has its own packet code, and no other byte is one
abbrev pub CodesTellKinds : Type 0
CodesTellKinds = (k : Kind) (byte : ℕ) → (kind_of byte ≡ Some k → code k ≡ byte) × (code k ≡ byte → kind_of byte ≡ Some k)

-- the length of a record lies in the range of its kind
abbrev pub LengthsInRange : Type 0
LengthsInRange =
    (k : Kind) (c : Content) →
    ContentOk k c →
    (shortest k ≤ length (record_bytes k c)) × (length (record_bytes k c) ≤ longest k)

-- a fibre has at most 86 clusters, 43 on each chip
abbrev pub AtMost86Clusters : Type 0
AtMost86Clusters = (m : Pair ℕ) (cs : List Cluster) → ContentOk ZeroSuppressed (suppressed m cs) → length cs ≤ 86

abbrev pub Laws : Type 0
Laws = CodesTellKinds × LengthsInRange × AtMost86Clusters

abbrev modes : ℕ → ℕ → Pair ℕ
modes l r = record { left = l; right = r }

abbrev cluster : ℕ → List ℕ → Cluster
cluster a vs = record { address = a; values = vs }

abbrev run : ℕ → ℕ → Run
run a n = record { address = a; strips = n }

-- common modes 100 and 300, and one cluster on strips 5 and 6
abbrev pub OneCluster : Type 0
OneCluster =
    record_bytes ZeroSuppressed (suppressed (modes 100 300) (cluster 5 (30 ∷ 40 ∷ []) ∷ []))
    ≡ 0x0B ∷ 0x00 ∷ 0xEA ∷ 0x64 ∷ 0x00 ∷ 0x2C ∷ 0x01 ∷ 0x05 ∷ 0x02 ∷ 0x1E ∷ 0x28 ∷ []

-- the shortest zero-suppressed record has no cluster
abbrev pub NoCluster : Type 0
NoCluster = record_bytes ZeroSuppressed (suppressed (modes 0 1023) []) ≡ 0x07 ∷ 0x00 ∷ 0xEA ∷ 0x00 ∷ 0x00 ∷ 0xFF ∷ 0x03 ∷ []

-- the longest has a cluster on all strips of each chip
abbrev pub AllStrips : Type 0
AllStrips =
    length (record_bytes ZeroSuppressed (suppressed (modes 0 0) (cluster 0 (replicate 128 9) ∷ cluster 128 (replicate 128 9) ∷ []))) ≡ 267

-- a raw record has 515 bytes
abbrev pub Raw : Type 0
Raw =
    (length (record_bytes ProcessedRaw (words (replicate 256 1023))) ≡ 515)
    × (length (record_bytes VirginRaw (words (replicate 256 0))) ≡ 515)

-- a cluster that ends at strip 127 may be followed by one at strip 128, but not on its own chip by one with a single free strip between; no cluster is empty or crosses strip 127
abbrev pub Places : Type 0
Places =
    (spaced (run 120 8 ∷ run 128 1 ∷ []) ≡ true)
    × (spaced (run 5 2 ∷ run 9 1 ∷ []) ≡ true)
    × (spaced (run 5 2 ∷ run 8 1 ∷ []) ≡ false)
    × (spaced (run 128 1 ∷ run 5 2 ∷ []) ≡ false)
    × (spaced (run 5 0 ∷ []) ≡ false)
    × (spaced (run 120 9 ∷ []) ≡ false)

abbrev pub WorkedExamples : Type 0
WorkedExamples = OneCluster × NoCluster × AllStrips × Raw × Places
