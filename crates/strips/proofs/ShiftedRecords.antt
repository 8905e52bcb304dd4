-- Shifted inputs give shifted zero-suppressed records.
-- Assumes nothing.
use Rattle.std.proofs.Common.{◌≡◌, ℕ, ◌-◌, ◌*◌, ◌/◌, ◌<◌, ◌≤◌, min, Bool, true, false, ltb, List, [], ◌∷◌, map, length, ℤ, pos, ◌+ℤ◌, sym, refl, ap, ◌∙◌, subst, ⊎_elim, arith}
use Rattle.std.specs.List.{range_with_len, AllByRecursion}
use Rattle.std.proofs.ByRecursion.{All-map, All-weaker}
use Rattle.std.proofs.lemmas.List.{length-map}
use Rattle.std.proofs.lemmas.Int.{ints}
use Rattle.std.proofs.lemmas.Bool.{lt-ltb, le-ltb, cond-true, cond-false, cases_lt}
use Rattle.std.proofs.lemmas.Bool.Decides.{nat_tests}
use Rattle.terms.specs.declared.pair.Pair.{Pair}
use Rattle.terms.specs.declared.pair.Side.{Side}
use Rattle.terms.specs.declared.pair.Side.TheVariants.{Left, Right}
use Rattle.terms.specs.Terms.{chip_number, part, side_number}
use Rattle.rules.specs.Rules.{Meaning, Shifted, ShiftLaw}
use Rattle.settings.specs.declared.fibre.FibreSettings.{FibreSettings}
use Rattle.settings.specs.Settings.{of_strip}
use Rattle.layout.specs.declared.kind.Kind.TheVariants as kinds
use Rattle.layout.specs.Event.{Cluster, suppressed, record_bytes}
use Rattle.layout.specs.Contents.{cluster_on}
use Rattle.clusters.specs.declared.reached.Reached.{Reached}
use Rattle.clusters.specs.Clusters.{cluster_runs}
use Rattle.strips.specs.Values.{flat, reduced}
use Rattle.strips.specs.Fibre.{strips, side_of, counts, level, flat_value, counted_strips, estimated, common_mode, common_modes, reduced_value, reached_by, suppressed_by, fibre_record}
use Rattle.strips.specs.Laws.{ShiftedFibre, ShiftedRecord, RanksFit, ShiftsRecords}
use Rattle.strips.proofs.Rows.{all_counting, all_kept, each_map, kept_least, same_map}
use Rattle.strips.proofs.FormedRecords.{chip_below, counted_most}

-- ---- one strip
-- on scale the flat value is what lies above the pedestal
flat_on_scale : (p u : ℕ) → u ≤ 1022 → flat p u ≡ u - p
flat_on_scale p u h = grind (arith, nat_tests)

flat_small : (p u : ℕ) → u ≤ 1022 → flat p u ≤ 1022
flat_small p u h = rw (flat_on_scale p u h) (omega arith)

flat_shifts : (p u w : ℕ) (c : ℤ) → p ≤ u → p ≤ w → u ≤ 1022 → w ≤ 1022 → pos w ≡ pos u +ℤ c → pos (flat p w) ≡ pos (flat p u) +ℤ c
flat_shifts p u w c pu pw hu hw e = rw (flat_on_scale p u hu, flat_on_scale p w hw) (omega (arith, ints))

reduced_on_scale : (m v : ℕ) → v ≤ 1022 → reduced true m v ≡ min (v - m) 254
reduced_on_scale m v h = grind (arith, nat_tests)

-- a value and a common mode that move together leave the reduced value as it is
reduced_stays :
    (b : Bool) (m n v w : ℕ) (c : ℤ) →
    (b ≡ true → (v ≤ 1022) × (w ≤ 1022) × (pos w ≡ pos v +ℤ c)) →
    pos n ≡ pos m +ℤ c →
    reduced b n w ≡ reduced b m v
reduced_stays true m n v w c h e =
    let both = h refl in
    let same : w - n ≡ v - m = omega (arith, ints, both.2) in
    reduced_on_scale n w both.1 ∙ ap (λ x. min x 254) same ∙ sym (reduced_on_scale m v both.0)
reduced_stays false m n v w c h e = refl

-- ---- one chip
estimated_shifts :
    (answer : List ℕ → ℕ) (vs ws : List ℕ) (c : ℤ) →
    length ws ≡ length vs →
    (length vs ≡ 0 → c ≡ pos 0) →
    (1 ≤ length vs → pos (answer ws) ≡ pos (answer vs) +ℤ c) →
    pos (estimated answer ws) ≡ pos (estimated answer vs) +ℤ c
estimated_shifts answer [] [] c l z s = let e = z refl in omega (arith, ints)
estimated_shifts answer [] (w ∷ ws) c l z s = absurd (omega arith)
estimated_shifts answer (v ∷ vs) [] c l z s = absurd (omega arith)
estimated_shifts answer (v ∷ vs) (w ∷ ws) c l z s = s (omega arith)

-- the strips of a chip
abbrev OfSide : Side → ℕ → Type 0
OfSide side s = (s < 256) × (side_of s ≡ side)

side_left : (s : ℕ) → s < 128 → side_of s ≡ Left
side_left s h = cond-true (ltb s 128) Left Right (lt-ltb s 128 h)

side_right : (s : ℕ) → 128 ≤ s → side_of s ≡ Right
side_right s h = cond-false (ltb s 128) Left Right (le-ltb s 128 h)

of_side : (side : Side) → AllByRecursion (OfSide side) (range_with_len (128 * side_number side) 128)
of_side Left = all_counting (OfSide Left) 0 128 (λ k l u. (omega arith, side_left k (omega arith)))
of_side Right = all_counting (OfSide Right) 128 128 (λ k l u. (omega arith, side_right k l))

rank_fits : (fibre : FibreSettings) (side : Side) → RanksFit fibre → part fibre.ranks side < 256
rank_fits fibre Left h = h.0
rank_fits fibre Right h = h.1

side_is : (s : ℕ) → s < 256 → side_number (side_of s) ≡ s / 128
side_is s h =
    ⊎_elim (λ l. let e : 0 ≡ s / 128 = omega arith in ap side_number (side_left s l) ∙ e)
    (λ r. let e : 1 ≡ s / 128 = omega arith in ap side_number (side_right s r) ∙ e)
    (cases_lt s 128)

module _ (fibre : FibreSettings) (c : Side → ℤ) (xs ys : List ℕ) (sh : ShiftedFibre fibre c xs ys) where
  -- the flat values of a strip that counts are on scale and move by the chip's constant
  flats :
      (s : ℕ) →
      s < 256 →
      counts fibre s ≡ true →
      (flat_value fibre xs s ≤ 1022)
      × (flat_value fibre ys s ≤ 1022)
      × (pos (flat_value fibre ys s) ≡ pos (flat_value fibre xs s) +ℤ c (side_of s))
  flats s h e =
      let p : ℕ = (of_strip fibre s).pedestal in
      let above = sh.from_pedestal s h e in
      let scale = sh.on_scale s h e in (
        flat_small p (level fibre xs s) scale.0,
        flat_small p (level fibre ys s) scale.1,
        flat_shifts p (level fibre xs s) (level fibre ys s) (c (side_of s)) above.0 above.1 scale.0 scale.1 (sh.by_constant s h e),
      )

  counted : (side : Side) → AllByRecursion (λ s. OfSide side s × (counts fibre s ≡ true)) (counted_strips fibre side)
  unfolding counted_strips
  counted side = all_kept (counts fibre) (OfSide side) (range_with_len (128 * side_number side) 128) (of_side side)

  one_small : (side : Side) → AllByRecursion (λ v. v ≤ 1022) (map (flat_value fibre xs) (counted_strips fibre side))
  one_small side =
      All-map (λ v. v ≤ 1022) (flat_value fibre xs) (counted_strips fibre side)
      (All-weaker (λ s. OfSide side s × (counts fibre s ≡ true)) (λ s. flat_value fibre xs s ≤ 1022)
      (λ s h. (flats s h.0.0 h.1).0) (counted_strips fibre side) (counted side))

  other_small : (side : Side) → AllByRecursion (λ v. v ≤ 1022) (map (flat_value fibre ys) (counted_strips fibre side))
  other_small side =
      All-map (λ v. v ≤ 1022) (flat_value fibre ys) (counted_strips fibre side)
      (All-weaker (λ s. OfSide side s × (counts fibre s ≡ true)) (λ s. flat_value fibre ys s ≤ 1022)
      (λ s h. (flats s h.0.0 h.1).1) (counted_strips fibre side) (counted side))

  chip_shifts : (side : Side) → Shifted (c side) (map (flat_value fibre xs) (counted_strips fibre side)) (map (flat_value fibre ys) (counted_strips fibre side))
  chip_shifts side =
      each_map (λ v w. pos w ≡ pos v +ℤ c side) (flat_value fibre xs) (flat_value fibre ys) (counted_strips fibre side)
      (All-weaker (λ s. OfSide side s × (counts fibre s ≡ true)) (λ s. pos (flat_value fibre ys s) ≡ pos (flat_value fibre xs s) +ℤ c side)
      (λ s h. subst (λ t. pos (flat_value fibre ys s) ≡ pos (flat_value fibre xs s) +ℤ c t) h.0.1 (flats s h.0.0 h.1).2)
      (counted_strips fibre side) (counted side))

  -- without a strip that counts the chip's constant is 0
  none_shifts : (side : Side) → length (counted_strips fibre side) ≡ 0 → c side ≡ pos 0
  unfolding counted_strips
  none_shifts side none =
      sh.none_counts side (λ s h on e.
      let place = side_is s h in
      let same = ap side_number on in
      let some = kept_least (counts fibre) (128 * side_number side) 128 s (omega arith) (omega arith) e in
      omega arith)

  module _ (meaning : Meaning) (f : ℕ) (law : ShiftLaw meaning) (within : f < 12) (ranks : RanksFit fibre) where
    mode_shifts : (side : Side) → pos (common_mode meaning f fibre ys side) ≡ pos (common_mode meaning f fibre xs side) +ℤ c side
    unfolding common_mode
    mode_shifts side =
        let ks : List ℕ = counted_strips fibre side in
        let one : List ℕ = map (flat_value fibre xs) ks in
        let other : List ℕ = map (flat_value fibre ys) ks in
        let one_long : length one ≡ length ks = length-map ks (flat_value fibre xs) in
        let other_long : length other ≡ length ks = length-map ks (flat_value fibre ys) in
        let most = counted_most fibre side in
        estimated_shifts (meaning (chip_number f side) (part fibre.ranks side)) one other (c side)
        (other_long ∙ sym one_long)
        (λ z. none_shifts side (sym one_long ∙ z))
        (λ some. law (chip_number f side) (part fibre.ranks side) one other (c side) (chip_below f side within) (rank_fits fibre side ranks) some
        (omega arith) (one_small side) (other_small side) (chip_shifts side))

    modes_shift : (side : Side) → pos (part (common_modes meaning f fibre ys) side) ≡ pos (part (common_modes meaning f fibre xs) side) +ℤ c side
    modes_shift Left = mode_shifts Left
    modes_shift Right = mode_shifts Right

    -- each strip keeps its reduced value
    strip_stays :
        (s : ℕ) →
        s < 256 →
        reduced_value fibre (common_modes meaning f fibre ys) ys s ≡ reduced_value fibre (common_modes meaning f fibre xs) xs s
    strip_stays s h =
        reduced_stays (counts fibre s)
        (part (common_modes meaning f fibre xs) (side_of s)) (part (common_modes meaning f fibre ys) (side_of s))
        (flat_value fibre xs s) (flat_value fibre ys s) (c (side_of s))
        (flats s h) (modes_shift (side_of s))

-- ---- the bytes
-- common modes that move, beside the same clusters
bytes_shift :
    (c : Side → ℤ) (m n : Pair ℕ) (cs : List Cluster) →
    pos n.left ≡ pos m.left +ℤ c Left →
    pos n.right ≡ pos m.right +ℤ c Right →
    ShiftedRecord c (record_bytes kinds.ZeroSuppressed (suppressed m cs)) (record_bytes kinds.ZeroSuppressed (suppressed n cs))
bytes_shift c m n cs l r =
    record {
      lengths = refl;
      header = refl;
      left = omega (arith, ints);
      right = omega (arith, ints);
      clusters = refl;
    }

-- common modes that move, beside the same reduced values and the same thresholds reached
content_shifts :
    (c : Side → ℤ) (m n : Pair ℕ) (values values' : List ℕ) (row row' : List Reached) →
    pos n.left ≡ pos m.left +ℤ c Left →
    pos n.right ≡ pos m.right +ℤ c Right →
    values' ≡ values →
    row' ≡ row →
    ShiftedRecord c (record_bytes kinds.ZeroSuppressed (suppressed m (map (cluster_on values) (cluster_runs row))))
    (record_bytes kinds.ZeroSuppressed (suppressed n (map (cluster_on values') (cluster_runs row'))))
content_shifts c m n values values' row row' l r p q =
    let same : map (cluster_on values) (cluster_runs row) ≡ map (cluster_on values') (cluster_runs row') =
    λ i. map (cluster_on (sym p i)) (cluster_runs (sym q i)) in
    subst (λ cs. ShiftedRecord c (record_bytes kinds.ZeroSuppressed (suppressed m (map (cluster_on values) (cluster_runs row)))) (record_bytes kinds.ZeroSuppressed (suppressed n cs)))
    same (bytes_shift c m n (map (cluster_on values) (cluster_runs row)) l r)

suppressed_shift :
    (fibre : FibreSettings) (c : Side → ℤ) (m n : Pair ℕ) (xs ys : List ℕ) →
    pos n.left ≡ pos m.left +ℤ c Left →
    pos n.right ≡ pos m.right +ℤ c Right →
    ((s : ℕ) → s < 256 → reduced_value fibre n ys s ≡ reduced_value fibre m xs s) →
    ShiftedRecord c (record_bytes kinds.ZeroSuppressed (suppressed_by fibre m xs)) (record_bytes kinds.ZeroSuppressed (suppressed_by fibre n ys))
unfolding suppressed_by
suppressed_shift fibre c m n xs ys l r stays =
    content_shifts c m n
    (map (reduced_value fibre m xs) strips) (map (reduced_value fibre n ys) strips)
    (map (λ s. reached_by fibre (reduced_value fibre m xs s) s) strips) (map (λ s. reached_by fibre (reduced_value fibre n ys s) s) strips)
    l r
    (same_map (reduced_value fibre n ys) (reduced_value fibre m xs) 0 256 (λ k _ h. stays k (omega arith)))
    (same_map (λ s. reached_by fibre (reduced_value fibre n ys s) s) (λ s. reached_by fibre (reduced_value fibre m xs s) s) 0 256
    (λ k _ h. ap (λ v. reached_by fibre v k) (stays k (omega arith))))

pub shifts_records : ShiftsRecords
unfolding fibre_record
shifts_records meaning f fibre c xs ys law within ranks sh =
    suppressed_shift fibre c (common_modes meaning f fibre xs) (common_modes meaning f fibre ys) xs ys
    (mode_shifts fibre c xs ys sh meaning f law within ranks Left)
    (mode_shifts fibre c xs ys sh meaning f law within ranks Right)
    (strip_stays fibre c xs ys sh meaning f law within ranks)
