-- Every record formed is one of the layout.
-- Assumes nothing.
use Rattle.std.proofs.Common.{◌≡◌, ℕ, ◌+◌, ◌-◌, ◌*◌, ◌<◌, ◌≤◌, Bool, true, false, eqb, List, [], ◌∷◌, map, length, get_or, take, drop, refl, ap, ◌∙◌, arith}
use Rattle.std.specs.List.{range_with_len, AllByRecursion}
use Rattle.std.proofs.lemmas.List.FromFn.{length-range_with_len, length-map-range_with_len}
use Rattle.std.proofs.ByRecursion.{All-append, All-take, All-drop}
use Rattle.std.proofs.lemmas.List.{length-map, length-take, length-drop}
use Rattle.std.proofs.lemmas.Bool.{cond_both, eqb-false}
use Rattle.std.proofs.lemmas.Bool.Decides.{nat_tests}
use Rattle.terms.specs.declared.pair.Pair.{Pair}
use Rattle.terms.specs.declared.pair.Side.{Side}
use Rattle.terms.specs.declared.pair.Side.TheVariants.{Left, Right}
use Rattle.terms.specs.Terms.{chip_number, part, side_number}
use Rattle.rules.specs.Rules.{Meaning, InRange}
use Rattle.settings.specs.declared.fibre.FibreSettings.{FibreSettings}
use Rattle.settings.specs.Settings.{of_strip}
use Rattle.settings.specs.declared.mode.Mode.TheVariants as modes
use Rattle.layout.specs.declared.kind.Kind.TheVariants as kinds
use Rattle.layout.specs.declared.run.Run.{Run}
use Rattle.layout.specs.Places.{spaced}
use Rattle.layout.specs.Event.{Byte, TenBits, run_of, ClusterBytes, suppressed, ContentOk}
use Rattle.layout.specs.Contents.{cluster_on}
use Rattle.layout.specs.ContentsLemmas.{values_on}
use Rattle.clusters.specs.declared.reached.Reached.{Reached}
use Rattle.clusters.specs.Patterns.{belongs, belonging}
use Rattle.clusters.specs.Clusters.{ended, runs_from, chip_runs, cluster_runs}
use Rattle.clusters.specs.Laws.{ClustersInPlace}
use Rattle.strips.specs.Order.{place_of}
use Rattle.strips.specs.Values.{turned, flat, reduced}
use Rattle.strips.specs.Fibre.{strips, side_of, counts, level, flat_value, counted_strips, estimated, common_mode, common_modes, reduced_value, reached_by, suppressed_by}
use Rattle.strips.specs.Laws.{Bounded, RecordsOfTheLayout}
use Rattle.strips.proofs.Rows.{all_of_map, all_at, kept_most}

-- ---- values
turned_most : (b : Bool) (x : ℕ) → x ≤ 1023 → turned b x ≤ 1023
turned_most true x h = omega arith
turned_most false x h = h

flat_most : (p u : ℕ) → u ≤ 1023 → flat p u ≤ 1023
flat_most p u h = grind (arith, nat_tests)

pub flat_value_most : (fibre : FibreSettings) (samples : List ℕ) → AllByRecursion TenBits samples → (s : ℕ) → flat_value fibre samples s ≤ 1023
flat_value_most fibre samples h s =
    flat_most (of_strip fibre s).pedestal (level fibre samples s)
    (turned_most fibre.complement (get_or samples (place_of s) 0) (all_at TenBits samples (place_of s) h (omega arith)))

reduced_most : (b : Bool) (m v : ℕ) → reduced b m v < 256
reduced_most true m v = grind (arith, nat_tests)
reduced_most false m v = omega arith

-- ---- common modes
estimated_most : (answer : List ℕ → ℕ) (vs : List ℕ) → (1 ≤ length vs → answer vs ≤ 1023) → estimated answer vs ≤ 1023
estimated_most answer [] h = omega arith
estimated_most answer (v ∷ vs) h = h (omega arith)

pub chip_below : (f : ℕ) (side : Side) → f < 12 → chip_number f side < 24
chip_below f Left h = omega arith
chip_below f Right h = omega arith

-- no more strips of a chip count than it has
pub counted_most : (fibre : FibreSettings) (side : Side) → length (counted_strips fibre side) ≤ 128
unfolding counted_strips
counted_most fibre side =
    let first : ℕ = 128 * side_number side in
    let most = kept_most (counts fibre) (range_with_len first 128) in
    let row = length-range_with_len first 128 in
    omega (arith, most, row)

-- the flat values of a chip are a list that a rule can be asked about, where there are any
in_range :
    (f : ℕ) (fibre : FibreSettings) (samples : List ℕ) (side : Side) →
    f < 12 →
    AllByRecursion TenBits samples →
    1 ≤ length (map (flat_value fibre samples) (counted_strips fibre side)) →
    InRange (chip_number f side) (map (flat_value fibre samples) (counted_strips fibre side))
in_range f fibre samples side h ten some =
    let long = length-map (counted_strips fibre side) (flat_value fibre samples) in
    let most = counted_most fibre side in
    record {
      of_card = chip_below f side h;
      some = some;
      of_chip = omega (arith, long, most);
      ten_bits = all_of_map (λ v. v ≤ 1023) (flat_value fibre samples) (flat_value_most fibre samples ten) (counted_strips fibre side);
    }

mode_most :
    (meaning : Meaning) (f : ℕ) (fibre : FibreSettings) (samples : List ℕ) (side : Side) →
    Bounded meaning →
    f < 12 →
    AllByRecursion TenBits samples →
    common_mode meaning f fibre samples side ≤ 1023
unfolding common_mode
mode_most meaning f fibre samples side bounded h ten =
    estimated_most (meaning (chip_number f side) (part fibre.ranks side)) (map (flat_value fibre samples) (counted_strips fibre side))
    (λ some. bounded (chip_number f side) (part fibre.ranks side) (map (flat_value fibre samples) (counted_strips fibre side)) (in_range f fibre samples side h ten some))

-- ---- runs
-- a run begins and ends before a strip
abbrev EndsBy : ℕ → Run → Type 0
EndsBy limit r = (r.address < limit) × (r.address + r.strips ≤ limit)

ended_by : (limit at n : ℕ) (rest : List Run) → n ≤ at → at ≤ limit → AllByRecursion (EndsBy limit) rest → AllByRecursion (EndsBy limit) (ended at n rest)
ended_by limit at n rest h k a =
    let run : Run = record { address = at - n; strips = n } in
    cond_both (eqb n 0) rest (run ∷ rest) (AllByRecursion (EndsBy limit)) (λ e. a)
    (λ e. let some = eqb-false n 0 e in ((omega arith, omega arith), a))

runs_end : (limit at n : ℕ) (bs : List Bool) → n ≤ at → at + length bs ≤ limit → AllByRecursion (EndsBy limit) (runs_from at n bs)
unfolding runs_from
runs_end limit at n [] h k = ended_by limit at n [] h (omega arith) tt
runs_end limit at n (true ∷ bs) h k = runs_end limit (at + 1) (n + 1) bs (omega arith) (omega arith)
runs_end limit at n (false ∷ bs) h k =
    ended_by limit at n (runs_from (at + 1) 0 bs) h (omega arith) (runs_end limit (at + 1) 0 bs (omega arith) (omega arith))

belonging_length : (row : List Reached) → length (belonging row) ≡ length row
belonging_length row = length-map-range_with_len (belongs row) 0 (length row)

fibre_ends : (row : List Reached) → length row ≡ 256 → AllByRecursion (EndsBy 256) (cluster_runs row)
unfolding cluster_runs
fibre_ends row long =
    let left = length-take 128 row in
    let right = length-drop 128 row in
    let bl = belonging_length (take 128 row) in
    let br = belonging_length (drop 128 row) in
    All-append (EndsBy 256) (chip_runs 0 (take 128 row)) (chip_runs 128 (drop 128 row))
    (runs_end 256 0 0 (belonging (take 128 row)) (omega arith) (omega arith))
    (runs_end 256 128 0 (belonging (drop 128 row)) (omega arith) (omega arith))

-- the clusters on the runs cover just these
cover : (values : List ℕ) (rs : List Run) → length values ≡ 256 → AllByRecursion (EndsBy 256) rs → map run_of (map (cluster_on values) rs) ≡ rs
cover values [] long h = refl
cover values (r ∷ rs) long h =
    let one = values_on values r long h.0.1 in
    let more = cover values rs long h.1 in
    λ i. record { address = r.address; strips = one i } ∷ more i

bytes : (values : List ℕ) (rs : List Run) → AllByRecursion Byte values → AllByRecursion (EndsBy 256) rs → AllByRecursion ClusterBytes (map (cluster_on values) rs)
bytes values [] b h = tt
bytes values (r ∷ rs) b h =
    ((h.0.0, All-take Byte r.strips (drop r.address values) (All-drop Byte r.address values b)), bytes values rs b h.1)

-- common modes and the clusters on the runs that are found among what 256 strips reach
suppressed_ok :
    (m : Pair ℕ) (values : List ℕ) (row : List Reached) →
    ClustersInPlace →
    m.left ≤ 1023 →
    m.right ≤ 1023 →
    length values ≡ 256 →
    AllByRecursion Byte values →
    length row ≡ 256 →
    ContentOk kinds.ZeroSuppressed (suppressed m (map (cluster_on values) (cluster_runs row)))
suppressed_ok m values row in_place left right long b all =
    let ends = fibre_ends row all in (
      left,
      right,
      ap spaced (cover values (cluster_runs row) long ends) ∙ in_place row all,
      bytes values (cluster_runs row) b ends,
    )

-- ---- records
suppressed_by_ok :
    (fibre : FibreSettings) (m : Pair ℕ) (samples : List ℕ) →
    ClustersInPlace →
    m.left ≤ 1023 →
    m.right ≤ 1023 →
    ContentOk kinds.ZeroSuppressed (suppressed_by fibre m samples)
unfolding suppressed_by
suppressed_by_ok fibre m samples in_place left right =
    suppressed_ok m (map (reduced_value fibre m samples) strips) (map (λ s. reached_by fibre (reduced_value fibre m samples s) s) strips) in_place left right
    (length-map-range_with_len (reduced_value fibre m samples) 0 256)
    (all_of_map Byte (reduced_value fibre m samples) (λ s. reduced_most (counts fibre s) (part m (side_of s)) (flat_value fibre samples s)) strips)
    (length-map-range_with_len (λ s. reached_by fibre (reduced_value fibre m samples s) s) 0 256)

pub records_of_the_layout : ClustersInPlace → RecordsOfTheLayout
records_of_the_layout in_place meaning f fibre modes.ZeroSuppression samples bounded h long ten =
    suppressed_by_ok fibre (common_modes meaning f fibre samples) samples in_place
    (mode_most meaning f fibre samples Left bounded h ten)
    (mode_most meaning f fibre samples Right bounded h ten)
records_of_the_layout in_place meaning f fibre modes.ProcessedRaw samples bounded h long ten = (
  length-map-range_with_len (flat_value fibre samples) 0 256,
  all_of_map TenBits (flat_value fibre samples) (flat_value_most fibre samples ten) strips,
)
records_of_the_layout in_place meaning f fibre modes.VirginRaw samples bounded h long ten = (long, ten)
