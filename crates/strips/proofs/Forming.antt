-- How a fibre's record comes out of its values, step by step.
-- Assumes nothing.
use Rattle.std.proofs.Common.{◌≡◌, ℕ, ◌+◌, ◌*◌, ◌<◌, ◌≤◌, Bool, true, false, ◌&&◌, leb, Option, Some, None, List, [], ◌∷◌, map, length, get_or, set, Result, sym, refl, ap, ◌∙◌, subst, arith}
use Rattle.std.specs.Option.{MatchOption, IsSome}
use Rattle.std.specs.List.{range_with_len, AllByRecursion}
use Rattle.std.proofs.lemmas.List.FromFn.{get_or-map-range_with_len, fill_by_all}
use Rattle.std.proofs.lemmas.List.{get_or-map, length-map}
use Rattle.std.proofs.lemmas.List.Edits.{fill_by_more}
use Rattle.std.proofs.lemmas.Bool.Decides.{nat_tests}
use Rattle.terms.specs.declared.refusal.Refusal.{Refusal}
use Rattle.terms.specs.declared.pair.Pair.{Pair}
use Rattle.terms.specs.declared.pair.Side.{Side}
use Rattle.terms.specs.declared.pair.Side.TheVariants.{Left, Right}
use Rattle.terms.specs.Terms.{part, side_number, chip_number}
use Rattle.rules.specs.Rules.{Meaning}
use Rattle.settings.specs.declared.fibre.FibreSettings.{FibreSettings}
use Rattle.settings.specs.Settings.{of_strip}
use Rattle.settings.specs.declared.mode.Mode.{Mode}
use Rattle.layout.specs.declared.run.Run.{Run}
use Rattle.layout.specs.Limits.{at_most}
use Rattle.layout.specs.Event.{Content, suppressed, TenBits, record_bytes}
use Rattle.layout.specs.Contents.{cluster_on}
use Rattle.layout.specs.Writing.{Written}
use Rattle.layout.specs.LimitsLemmas.{at_most_from}
use Rattle.clusters.specs.declared.reached.Reached.{Reached}
use Rattle.clusters.specs.Clusters.{cluster_runs}
use Rattle.strips.specs.declared.sample.Sample.{Sample}
use Rattle.strips.specs.Values.{reduced, reaches}
use Rattle.strips.specs.Fibre.{strips, side_of, counts, numbers, flat_value, counted_strips, estimated, mode_of_flats, common_mode, common_modes, reduced_value, reduced_values, reached_by, all_reached, suppressed_by, kind_in, content_in, fibre_record}
use Rattle.strips.proofs.Rows.{all_of_map, all_counting, all_at, all_kept, same_map}
use Rattle.strips.proofs.FormedRecords.{flat_value_most}

-- samples and flat values have ten bits
pub numbers_fit : (samples : List Sample) → AllByRecursion TenBits (numbers samples)
numbers_fit samples = all_of_map TenBits (λ x. x.value) (λ x. x.ten_bits) samples

pub flats_fit : (fibre : FibreSettings) (samples : List Sample) → AllByRecursion TenBits (map (flat_value fibre (numbers samples)) strips)
flats_fit fibre samples = all_of_map TenBits (flat_value fibre (numbers samples)) (flat_value_most fibre (numbers samples) (numbers_fit samples)) strips

-- as a test of all of them
all_most : (xs : List ℕ) → AllByRecursion TenBits xs → at_most 1023 xs ≡ true
all_most xs fit = at_most_from 1023 xs (λ k. all_at TenBits xs k fit (omega arith))

pub numbers_most : (samples : List Sample) → at_most 1023 (numbers samples) ≡ true
numbers_most samples = all_most (numbers samples) (numbers_fit samples)

pub flats_most : (fibre : FibreSettings) (samples : List Sample) → at_most 1023 (map (flat_value fibre (numbers samples)) strips) ≡ true
flats_most fibre samples = all_most (map (flat_value fibre (numbers samples)) strips) (flats_fit fibre samples)

-- what passes a test is never turned down
pub taken : {X : Type 0} (r : Option X) (test : Bool) (P : X → Type 0) → MatchOption r (test ≡ false) P → test ≡ true → IsSome r
taken None test P m e = sym m ∙ e
taken (Some x) test P m e = refl

-- and is as it says
pub taken_is : {X : Type 0} (r : Option X) (x : X) (test : Bool) (P : X → Type 0) → MatchOption r (test ≡ false) P → r ≡ Some x → P x
taken_is r x test P m e = subst (λ o. MatchOption o (test ≡ false) P) e m

-- one more value of a row that is filled strip by strip
pub fill_more : {X : Type 0} (f : ℕ → X) (xs : List X) (i : ℕ) (d v : X) → v ≡ f i → i < length xs → ((k : ℕ) → k < i → get_or xs k d ≡ f k)
    → (k : ℕ) → k < i + 1 → get_or (set xs i v) k d ≡ f k
fill_more {X} f xs i d v e h below k g = subst (λ (w : X). get_or (set xs i w) k d ≡ f k) (sym e) (fill_by_more f xs i d h below k g)

-- the reduced value of a strip out of what the code knows of it
pub value_is : (fibre : FibreSettings) (m : Pair ℕ) (flats : List ℕ) (s : ℕ) (b : Bool) (side : Side) (mode v : ℕ)
    → b ≡ counts fibre s → side ≡ side_of s → mode ≡ part m side → v ≡ reduced b mode (get_or flats s 0)
    → v ≡ reduced (counts fibre s) (part m (side_of s)) (get_or flats s 0)
value_is fibre m flats s b side mode v eb eside emode ev =
    ev
    ∙ (ap (λ (x : Bool). reduced x mode (get_or flats s 0)) eb
    ∙ ap (λ (x : ℕ). reduced (counts fibre s) x (get_or flats s 0)) (emode ∙ ap (part m) eside))

-- and what it reaches
pub reached_is : (fibre : FibreSettings) (s : ℕ) (b : Bool) (v w : ℕ) (one two : Bool) → b ≡ counts fibre s → v ≡ w
    → one ≡ reaches b (of_strip fibre s).thresh1 v → two ≡ reaches b (of_strip fibre s).thresh2 v
    → ◌≡◌ {A = Reached} (record { thresh1 = one; thresh2 = two }) (reached_by fibre w s)
reached_is fibre s b v w one two eb ev e1 e2 =
    let first : one ≡ reaches (counts fibre s) (of_strip fibre s).thresh1 w =
    e1 ∙ (ap (λ (x : Bool). reaches x (of_strip fibre s).thresh1 v) eb ∙ ap (reaches (counts fibre s) (of_strip fibre s).thresh1) ev)
    in
    let second : two ≡ reaches (counts fibre s) (of_strip fibre s).thresh2 w =
    e2 ∙ (ap (λ (x : Bool). reaches x (of_strip fibre s).thresh2 v) eb ∙ ap (reaches (counts fibre s) (of_strip fibre s).thresh2) ev)
    in
    cc

-- what strips reach with values of their own
pub reached_of : (fibre : FibreSettings) (f : ℕ → ℕ) → all_reached fibre (map f strips) ≡ map (λ s. reached_by fibre (f s) s) strips
reached_of fibre f =
    same_map (λ s. reached_by fibre (get_or (map f strips) s 0) s) (λ s. reached_by fibre (f s) s) 0 256
    (λ k low high. ap (λ (v : ℕ). reached_by fibre v k) (get_or-map-range_with_len f 0 256 k k 0 (omega arith) (omega arith)))

pair_is : (m : Pair ℕ) (l r : ℕ) → m.left ≡ l → m.right ≡ r → m ≡ record { left = l; right = r }
pair_is m l r e f =
    ap {B = Pair ℕ} (λ (x : ℕ). record { left = x; right = m.right }) e ∙ ap {B = Pair ℕ} (λ (y : ℕ). record { left = l; right = y }) f

-- a row with the number of every sample is the samples as numbers
pub number_at : (samples : List Sample) (k : ℕ) (d : Sample) (v : ℕ) → k < length samples → v ≡ (get_or samples k d).value → v ≡ get_or (numbers samples) k 0
number_at samples k d v h e = e ∙ sym (get_or-map (λ (y : Sample). y.value) samples k d 0 h)

pub numbers_are : (samples : List Sample) (row : List ℕ) → length samples ≡ 256 → length row ≡ 256
    → ((k : ℕ) → k < 256 → get_or row k 0 ≡ get_or (numbers samples) k 0) → row ≡ numbers samples
numbers_are samples row long row_long each =
    fill_by_all (λ k. get_or (numbers samples) k 0) row 256 0 row_long each
    ∙ sym (fill_by_all (λ k. get_or (numbers samples) k 0) (numbers samples) 256 0 (length-map samples (λ (y : Sample). y.value) ∙ long) (λ k h. refl))

-- the strips that count are among the 256
chip_below : (side : Side) (k : ℕ) → k < 128 * side_number side + 128 → k < 256
chip_below Left k h = omega arith
chip_below Right k h = omega arith

map_alike : (f g : ℕ → ℕ) (P : ℕ → Type 0) (xs : List ℕ) → AllByRecursion P xs → ((k : ℕ) → P k → f k ≡ g k) → map f xs ≡ map g xs
map_alike f g P [] all e = refl
map_alike f g P (x ∷ xs) all e =
    ap (λ (y : ℕ). y ∷ map f xs) (e x all.0) ∙ ap (λ (r : List ℕ). g x ∷ r) (map_alike f g P xs all.1 e)

module _ (fibre : FibreSettings) (samples flats : List ℕ) (is : flats ≡ map (flat_value fibre samples) strips) where
  flat_at : (s : ℕ) → s < 256 → get_or flats s 0 ≡ flat_value fibre samples s
  flat_at s h = ap (λ (xs : List ℕ). get_or xs s 0) is ∙ get_or-map-range_with_len (flat_value fibre samples) 0 256 s s 0 h (omega arith)

  counted_flats : (side : Side) → map (λ s. get_or flats s 0) (counted_strips fibre side) ≡ map (flat_value fibre samples) (counted_strips fibre side)
  unfolding counted_strips
  counted_flats side =
      map_alike (λ s. get_or flats s 0) (flat_value fibre samples) (λ s. (s < 256) × (counts fibre s ≡ true))
      (counted_strips fibre side)
      (all_kept (counts fibre) (λ s. s < 256) (range_with_len (128 * side_number side) 128)
      (all_counting (λ s. s < 256) (128 * side_number side) 128 (λ k low high. chip_below side k high)))
      (λ k h. flat_at k h.0)

  mode_is : (meaning : Meaning) (f mode : ℕ) (side : Side)
      → mode ≡ estimated (meaning (chip_number f side) (part fibre.ranks side)) (map (λ s. get_or flats s 0) (counted_strips fibre side))
      → mode ≡ common_mode meaning f fibre samples side
  unfolding common_mode
  mode_is meaning f mode side e = e ∙ ap (estimated (meaning (chip_number f side) (part fibre.ranks side))) (counted_flats side)

  values_are : (m : Pair ℕ) → reduced_values fibre m flats ≡ map (reduced_value fibre m samples) strips
  values_are m =
      same_map (λ s. reduced (counts fibre s) (part m (side_of s)) (get_or flats s 0)) (reduced_value fibre m samples) 0 256
      (λ k low high. ap (reduced (counts fibre k) (part m (side_of k))) (flat_at k (omega arith)))

  -- common modes and clusters, as the definition has them
  pub formed : (meaning : Meaning) (f : ℕ) (m : Pair ℕ) (values : List ℕ) (reached : List Reached) (runs : List Run) (content : Content)
      → m.left ≡ mode_of_flats meaning f fibre flats Left
      → m.right ≡ mode_of_flats meaning f fibre flats Right
      → values ≡ reduced_values fibre m flats
      → reached ≡ all_reached fibre values
      → runs ≡ cluster_runs reached
      → content ≡ suppressed m (map (cluster_on values) runs)
      → content ≡ suppressed_by fibre (common_modes meaning f fibre samples) samples
  unfolding suppressed_by
  formed meaning f m values reached runs content left right vs rs found is_content =
      let values_then = vs ∙ values_are m in
      let reached_then = rs ∙ ap (all_reached fibre) values_then ∙ reached_of fibre (reduced_value fibre m samples) in
      let l = mode_is meaning f m.left Left left in
      let r = mode_is meaning f m.right Right right in
      let modes = pair_is m (common_mode meaning f fibre samples Left) (common_mode meaning f fibre samples Right) l r in
      let here : content ≡ suppressed_by fibre m samples =
      is_content
      ∙ (ap (λ (xs : List ℕ). suppressed m (map (cluster_on xs) runs)) values_then
      ∙ ap (λ (xs : List Run). suppressed m (map (cluster_on (map (reduced_value fibre m samples) strips)) xs)) (found ∙ ap cluster_runs reached_then))
      in
      here ∙ ap (λ (p : Pair ℕ). suppressed_by fibre p samples) modes

-- common modes that fit pass the test of both
pub both_fit : (l r : ℕ) → l ≤ 1023 → r ≤ 1023 → (leb l 1023 && leb r 1023) ≡ true
both_fit l r h k = grind (arith, nat_tests)

-- a record written of a content is the fibre's record where the content is the fibre's
pub written_as : (meaning : Meaning) (f : ℕ) (fibre : FibreSettings) (mode mode' : Mode) (samples : List ℕ) (content : Content) (before after : List ℕ) (r : Result ℕ Refusal)
    → mode ≡ mode' → content ≡ content_in meaning f fibre mode' samples
    → Written (record_bytes (kind_in mode') content) before after r
    → Written (fibre_record meaning f fibre mode samples) before after r
unfolding fibre_record
written_as meaning f fibre mode mode' samples content before after r is e written =
    subst (λ (m : Mode). Written (record_bytes (kind_in m) (content_in meaning f fibre m samples)) before after r) (sym is)
    (subst (λ (x : Content). Written (record_bytes (kind_in mode') x) before after r) e written)
