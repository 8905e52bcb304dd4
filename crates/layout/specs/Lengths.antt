-- How long records are.
use Rattle.std.specs.Prelude.{◌≡◌, ℕ, ◌+◌, ◌*◌, ◌≤◌, true, List, [], ◌∷◌, map, length, refl}
use Rattle.std.proofs.Common.{arith}
use Rattle.std.specs.List.{flat_map, AllByRecursion}
use Rattle.std.proofs.lemmas.List.{length-append, length-map}
use Rattle.layout.specs.declared.kind.Kind.{Kind}
use Rattle.layout.specs.declared.kind.Kind.TheVariants.{ZeroSuppressed, ProcessedRaw, VirginRaw}
use Rattle.layout.specs.Places.{spaced}
use Rattle.layout.specs.Event.{Cluster, run_of, ClusterBytes, Content, suppressed, words, ContentOk, shortest, longest, word, cluster_bytes, content_bytes}
use Rattle.layout.specs.Laws.{LengthsInRange, AtMost86Clusters}
use Rattle.layout.specs.PlacesLemmas.{OnFibre, taken, taken_most, runs_most}

-- clusters take the bytes of their runs
pub clusters_length : (cs : List Cluster) → length (flat_map cluster_bytes cs) ≡ taken (map run_of cs)
clusters_length [] = refl
clusters_length (c ∷ cs) =
    let i = clusters_length cs in
    let a = length-append c.values (flat_map cluster_bytes cs) in omega arith

clusters_on_fibre : (cs : List Cluster) → AllByRecursion ClusterBytes cs → AllByRecursion OnFibre (map run_of cs)
clusters_on_fibre [] h = tt
clusters_on_fibre (c ∷ cs) h = (h.0.0, clusters_on_fibre cs h.1)

-- the clusters of a record take at most 260 bytes
pub clusters_most : (cs : List Cluster) → spaced (map run_of cs) ≡ true → AllByRecursion ClusterBytes cs → length (flat_map cluster_bytes cs) ≤ 260
clusters_most cs e h =
    let l = clusters_length cs in
    let t = taken_most (map run_of cs) e (clusters_on_fibre cs h) in omega arith

-- two bytes for each word
pub words_length : (ws : List ℕ) → length (flat_map word ws) ≡ 2 * length ws
words_length [] = refl
words_length (w ∷ ws) = let i = words_length ws in omega arith

words_in_range : (ws : List ℕ) → length ws ≡ 256 → (515 ≤ 3 + length (flat_map word ws)) × (3 + length (flat_map word ws) ≤ 515)
words_in_range ws e = let l = words_length ws in omega arith

-- a record's length lies in the range of its kind
pub record_in_range :
    (k : Kind) (c : Content) →
    ContentOk k c →
    (shortest k ≤ 3 + length (content_bytes c)) × (3 + length (content_bytes c) ≤ longest k)
record_in_range ZeroSuppressed (suppressed m cs) h =
    let l = clusters_most cs h.2 h.3 in omega arith
record_in_range ZeroSuppressed (words ws) h = absurd h
record_in_range ProcessedRaw (suppressed m cs) h = absurd h
record_in_range ProcessedRaw (words ws) h = words_in_range ws h.0
record_in_range VirginRaw (suppressed m cs) h = absurd h
record_in_range VirginRaw (words ws) h = words_in_range ws h.0

-- a length fits two bytes
pub longest_most : (k : Kind) → longest k ≤ 515
longest_most ZeroSuppressed = omega arith
longest_most ProcessedRaw = omega arith
longest_most VirginRaw = omega arith

pub lengths_in_range : LengthsInRange
lengths_in_range k c h = let r = record_in_range k c h in omega arith

pub at_most_86 : AtMost86Clusters
at_most_86 m cs h = omega (arith, runs_most (map run_of cs) h.2 (clusters_on_fibre cs h.3), length-map cs run_of)
