-- The clusters of a record: what is written is read back, and what was read is what would be written.
-- Assumes nothing.
use Rattle.std.proofs.Common.{◌≡◌, ℕ, suc, ◌+◌, ◌≤◌, true, leb, List, [], ◌∷◌, ◌++◌, map, length, drop, Some, None, Ok, Option, sym, refl, ap, ◌∙◌, subst, ap₂, arith, length-append, take-append-drop}
use mathlib.Core.List.{head-eq_of_cons-eq, tail-eq_of_cons-eq, nil≢cons}
use Rattle.std.proofs.lemmas.Bool.{le-leb, and_parts, and_from}
use Rattle.std.proofs.lemmas.List.{length-take-le, take_at, drop_at}
use Rattle.std.proofs.ByRecursion.{All-take, All-drop}
use Rattle.std.specs.List.{flat_map, AllByRecursion}
use Rattle.layout.specs.declared.run.Run.{Run}
use Rattle.layout.specs.Places.{placed, apart, spaced}
use Rattle.layout.specs.Event.{Byte, Cluster, run_of, ClusterBytes, cluster_bytes}
use Rattle.faults.specs.declared.fault.ClusterFault.TheVariants as clusters
use Rattle.reader.specs.Questions.{ok_map, behind, read_cluster, read_clusters}
use Rattle.reader.proofs.Asks.{ok_same, ask_yes, and_then_ok, ok_map_ok}
use Rattle.reader.proofs.Walk.{ClusterAt, cluster_at, next_cluster}

-- each cluster lies in its place, and behind the one before
abbrev pub Chained : Option Run → List Cluster → Type 0
Chained b [] = Unit {0}
Chained b (c ∷ cs) = (placed (run_of c) ≡ true) × (behind b (run_of c) ≡ true) × Chained (Some (run_of c)) cs

spaced_behind :
    (c : Cluster) (cs : List Cluster) →
    spaced (map run_of (c ∷ cs)) ≡ true →
    (placed (run_of c) ≡ true) × Chained (Some (run_of c)) cs
spaced_behind c [] h = (h, tt)
spaced_behind c (d ∷ cs) h =
    let one = and_parts (placed (run_of c)) _ h in
    let two = and_parts (apart (run_of c) (run_of d)) _ one.1 in
    let below = spaced_behind d cs two.1 in
    (one.0, (below.0, two.0, below.1))

-- spaced runs, as the walk over clusters sees them
pub chained_from_spaced : (cs : List Cluster) → spaced (map run_of cs) ≡ true → Chained None cs
chained_from_spaced [] h = tt
chained_from_spaced (c ∷ cs) h = let b = spaced_behind c cs h in (b.0, refl, b.1)

behind_spaced :
    (c : Cluster) (cs : List Cluster) →
    placed (run_of c) ≡ true →
    Chained (Some (run_of c)) cs →
    spaced (map run_of (c ∷ cs)) ≡ true
behind_spaced c [] p h = p
behind_spaced c (d ∷ cs) p h =
    and_from (placed (run_of c)) _ p (and_from (apart (run_of c) (run_of d)) _ h.1 (behind_spaced d cs h.0 h.2))

-- and the other way round
pub spaced_from_chained : (cs : List Cluster) → Chained None cs → spaced (map run_of cs) ≡ true
spaced_from_chained [] h = refl
spaced_from_chained (c ∷ cs) h = behind_spaced c cs h.0 h.2

-- a cluster that was read, and what lies behind it, are the bytes that it was read from
pub cluster_split :
    (b : Option Run) (xs : List ℕ) (c : Cluster) → ClusterAt b xs c → cluster_bytes c ++ drop (2 + length c.values) xs ≡ xs
cluster_split b xs c r =
    let len : length c.values ≡ r.strips = ap length r.values ∙ length-take-le r.strips r.rest r.within in
    let two : 2 + length c.values ≡ suc (suc r.strips) = omega arith in
    ap₂ (λ (k : ℕ) (ys : List ℕ). cluster_bytes c ++ drop k ys) two r.bytes
    ∙ ap₂ (λ (k : ℕ) (vs : List ℕ). c.address ∷ k ∷ (vs ++ drop r.strips r.rest)) len r.values
    ∙ ap (λ (ys : List ℕ). c.address ∷ r.strips ∷ ys) (take-append-drop r.strips r.rest)
    ∙ sym r.bytes

-- an address and values that were read from bytes are bytes
pub cluster_is_bytes : (b : Option Run) (xs : List ℕ) (c : Cluster) → ClusterAt b xs c → AllByRecursion Byte xs → ClusterBytes c
cluster_is_bytes b xs c r h =
    let g : AllByRecursion Byte (c.address ∷ r.strips ∷ r.rest) = subst (λ (ys : List ℕ). AllByRecursion Byte ys) r.bytes h in
    (g.0, subst (λ (ys : List ℕ). AllByRecursion Byte ys) (sym r.values) (All-take Byte r.strips r.rest g.1.1))

-- clusters that were read are in their places, and their bytes are those that were read
pub clusters_sound :
    (b : Option Run) (at : ℕ) (xs : List ℕ) (cs : List Cluster) →
    AllByRecursion Byte xs →
    read_clusters 0 b at xs ≡ Ok cs →
    (flat_map cluster_bytes cs ≡ xs) × Chained b cs × AllByRecursion ClusterBytes cs
clusters_sound b at [] [] bytes h = (refl, tt, tt)
clusters_sound b at [] (c ∷ cs) bytes h = absurd (nil≢cons (ok_same [] (c ∷ cs) h))
clusters_sound b at (x ∷ xs) [] bytes h =
    let one = and_then_ok (read_cluster b at (x ∷ xs)) _ [] h in
    let two = ok_map_ok (λ (ds : List Cluster). one.0 ∷ ds) _ [] one.2 in absurd (nil≢cons (sym two.2))
clusters_sound b at (x ∷ xs) (c ∷ cs) bytes h =
    let one = and_then_ok (read_cluster b at (x ∷ xs)) _ (c ∷ cs) h in
    let two = ok_map_ok (λ (ds : List Cluster). one.0 ∷ ds) _ (c ∷ cs) one.2 in
    let read : read_cluster b at (x ∷ xs) ≡ Ok c = one.1 ∙ ap Ok (head-eq_of_cons-eq two.2) in
    let r = cluster_at b at (x ∷ xs) c read in
    let size : ℕ = 2 + length c.values in
    let three =
    ok_map_ok
    (λ (ds : List Cluster). c ∷ ds)
    (read_clusters 0 (Some (run_of c)) (at + size) (drop size (x ∷ xs)))
    (c ∷ cs)
    (sym (next_cluster b at (x ∷ xs) c read).1 ∙ h) in
    let below =
    clusters_sound (Some (run_of c)) (at + size) (drop size (x ∷ xs)) cs (All-drop Byte size (x ∷ xs) bytes)
    (three.1 ∙ ap Ok (tail-eq_of_cons-eq three.2)) in (
      ap (λ (ys : List ℕ). cluster_bytes c ++ ys) below.0 ∙ cluster_split b (x ∷ xs) c r,
      (r.in_place, r.in_order, below.1),
      (cluster_is_bytes b (x ∷ xs) c r bytes, below.2),
    )

-- a cluster in its place is read back, whatever follows
pub cluster_complete :
    (b : Option Run) (at : ℕ) (c : Cluster) (rest : List ℕ) →
    placed (run_of c) ≡ true →
    behind b (run_of c) ≡ true →
    read_cluster b at (cluster_bytes c ++ rest) ≡ Ok c
cluster_complete b at c rest p q =
    let n : ℕ = length c.values in
    let room : n ≤ length (c.values ++ rest) = omega (arith, length-append c.values rest) in
    ask_yes (placed (run_of c)) (clusters.BadLength at) _ c p
    (ask_yes (leb n (length (c.values ++ rest))) (clusters.DataOutside at) _ c (le-leb n (length (c.values ++ rest)) room)
    (ask_yes (behind b (run_of c)) (clusters.OutOfOrder at) _ c q
    (ap (λ (vs : List ℕ). Ok (record { address = c.address; values = vs })) (take_at c.values rest n refl))))

-- clusters in their places are read back
pub clusters_complete :
    (b : Option Run) (at : ℕ) (cs : List Cluster) → Chained b cs → read_clusters 0 b at (flat_map cluster_bytes cs) ≡ Ok cs
clusters_complete b at [] h = refl
clusters_complete b at (c ∷ cs) h =
    let size : ℕ = 2 + length c.values in
    let rest : List ℕ = flat_map cluster_bytes cs in
    let exact : suc (suc (length c.values)) ≡ size = omega arith in
    (next_cluster b at (cluster_bytes c ++ rest) c (cluster_complete b at c rest h.0 h.1)).1
    ∙ ap
    (ok_map (λ (ds : List Cluster). c ∷ ds))
    (ap (λ (ys : List ℕ). read_clusters 0 (Some (run_of c)) (at + size) ys) (drop_at (cluster_bytes c) rest size exact)
    ∙ clusters_complete (Some (run_of c)) (at + size) cs h.2)
