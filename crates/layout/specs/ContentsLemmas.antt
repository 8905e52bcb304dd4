-- What the types that a writer takes hold is well-formed, and how many bytes it has.
use Rattle.std.specs.Prelude.{◌≡◌, ℕ, ◌+◌, ◌<◌, ◌≤◌, true, List, [], ◌∷◌, map, length, take, drop, slice_index_or, refl}
use Rattle.std.proofs.Common.{sym, ap, subst, ◌∙◌, arith}
use Rattle.std.specs.List.{flat_map, AllByRecursion}
use Rattle.std.proofs.lemmas.List.{length-take-le, length-drop}
use Rattle.std.proofs.ByRecursion.{All-weaker, All-take, All-drop, All-get_or}
use Rattle.layout.specs.declared.run.Run.{Run}
use Rattle.layout.specs.declared.suppressed.Suppressed.{Suppressed}
use Rattle.layout.specs.declared.words.Words.{Words}
use Rattle.layout.specs.declared.kind.Kind.TheVariants as kinds
use Rattle.layout.specs.Places.{spaced}
use Rattle.layout.specs.Event.{Byte, run_of, ClusterBytes, ContentOk, cluster_bytes}
use Rattle.layout.specs.Contents.{listed, cluster_on, clusters, suppressed_content, words_content}
use Rattle.layout.specs.PlacesLemmas.{OnFibre, placed_parts, spaced_head, spaced_tail, on_fibre_all, taken, taken_most, runs_most}
use Rattle.layout.specs.LimitsLemmas.{at_most_all}
use Rattle.layout.specs.Lengths.{clusters_length}

-- a run that lies in its chip ends on the fibre
run_ends : (r : Run) (rs : List Run) → spaced (r ∷ rs) ≡ true → r.address < 256 → r.address + r.strips ≤ 256
run_ends r rs e h = let p = placed_parts r (spaced_head r rs e) in omega arith

-- one value for each strip of a run
pub values_on : (values : List ℕ) (r : Run) → length values ≡ 256 → r.address + r.strips ≤ 256 → length (take r.strips (drop r.address values)) ≡ r.strips
values_on values r long h =
    let d = length-drop r.address values in
    let room : r.strips ≤ length (drop r.address values) = omega arith in
    length-take-le r.strips (drop r.address values) room

-- the cluster on a run covers that run
covers : (values : List ℕ) (r : Run) → length values ≡ 256 → r.address + r.strips ≤ 256 → run_of (cluster_on values r) ≡ r
covers values r long h = let p = values_on values r long h in λ i. record { address = r.address; strips = p i }

-- each run of a fibre ends on it
ends_on_fibre : (rs : List Run) → spaced rs ≡ true → AllByRecursion OnFibre rs → AllByRecursion (λ r. r.address + r.strips ≤ 256) rs
ends_on_fibre [] e h = tt
ends_on_fibre (r ∷ rs) e h = (run_ends r rs e h.0, ends_on_fibre rs (spaced_tail r rs e) h.1)

all_cover :
    (values : List ℕ) (rs : List Run) →
    length values ≡ 256 →
    spaced rs ≡ true →
    AllByRecursion OnFibre rs →
    map run_of (map (cluster_on values) rs) ≡ rs
all_cover values [] long e h = refl
all_cover values (r ∷ rs) long e h =
    let one = covers values r long (run_ends r rs e h.0) in
    let more = all_cover values rs long (spaced_tail r rs e) h.1 in
    λ i. one i ∷ more i

all_bytes : (values : List ℕ) (rs : List Run) → AllByRecursion Byte values → AllByRecursion OnFibre rs → AllByRecursion ClusterBytes (map (cluster_on values) rs)
all_bytes values [] b h = tt
all_bytes values (r ∷ rs) b h =
    ((h.0, All-take Byte r.strips (drop r.address values) (All-drop Byte r.address values b)), all_bytes values rs b h.1)

-- the runs of a content cover as they should
pub clusters_cover : (s : Suppressed) → map run_of (clusters s) ≡ listed s.runs
clusters_cover s =
    all_cover s.values (listed s.runs) s.all s.runs.in_order (on_fibre_all (listed s.runs) s.runs.on_strips)

-- the bytes of its clusters
pub clusters_taken : (s : Suppressed) → length (flat_map cluster_bytes (clusters s)) ≡ taken (listed s.runs)
clusters_taken s = clusters_length (clusters s) ∙ ap taken (clusters_cover s)

pub runs_taken : (s : Suppressed) → taken (listed s.runs) ≤ 260
runs_taken s = taken_most (listed s.runs) s.runs.in_order (on_fibre_all (listed s.runs) s.runs.on_strips)

pub runs_few : (s : Suppressed) → length (listed s.runs) ≤ 86
runs_few s = runs_most (listed s.runs) s.runs.in_order (on_fibre_all (listed s.runs) s.runs.on_strips)

-- a run of a content ends on the fibre
pub run_ends_at : (s : Suppressed) (rs : List Run) (i : ℕ) (d : Run) → rs ≡ listed s.runs → i < length rs → (slice_index_or rs i d).address + (slice_index_or rs i d).strips ≤ 256
run_ends_at s rs i d e h =
    let all : AllByRecursion (λ r. r.address + r.strips ≤ 256) rs =
    subst (AllByRecursion (λ r. r.address + r.strips ≤ 256)) (sym e) (ends_on_fibre (listed s.runs) s.runs.in_order (on_fibre_all (listed s.runs) s.runs.on_strips)) in
    All-get_or (λ r. r.address + r.strips ≤ 256) rs i d h all

-- ---- they are contents of the layout
pub suppressed_ok : (s : Suppressed) → ContentOk kinds.ZeroSuppressed (suppressed_content s)
suppressed_ok s = (
  s.left_fits,
  s.right_fits,
  ap spaced (clusters_cover s) ∙ s.runs.in_order,
  all_bytes s.values (listed s.runs)
      (All-weaker (λ x. x ≤ 255) Byte (λ x h. omega arith) s.values (at_most_all 255 s.values s.bytes))
      (on_fibre_all (listed s.runs) s.runs.on_strips),
)

pub processed_ok : (w : Words) → ContentOk kinds.ProcessedRaw (words_content w)
processed_ok w = (w.all, at_most_all 1023 w.list w.ten_bits)

pub virgin_ok : (w : Words) → ContentOk kinds.VirginRaw (words_content w)
virgin_ok w = processed_ok w
