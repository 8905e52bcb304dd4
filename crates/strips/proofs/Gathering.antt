-- The values of a chip's strips that count, gathered strip by strip at the front of a row.
-- Assumes nothing.
use Rattle.std.proofs.Common.{◌≡◌, ℕ, zero, suc, ◌+◌, ◌-◌, ◌*◌, ◌<◌, ◌≤◌, Bool, true, false, cond, List, [], ◌∷◌, ◌++◌, map, length, get_or, take, set, filter, sym, refl, ap, ◌∙◌, append-nil, add-zero, add-one, arith, length-set, take-suc-set}
use mir.Val.{bool_byte}
use Rattle.std.proofs.lemmas.List.{take-set, map-append}
use Rattle.std.proofs.lemmas.List.FromFn.{filter_of_map_range_with_len_more}
use Rattle.std.proofs.lemmas.Bool.{lt-ltb, le-ltb}
use Rattle.std.specs.List.{range_with_len}
use Rattle.terms.specs.declared.pair.Side.{Side}
use Rattle.terms.specs.declared.pair.Side.TheVariants.{Left, Right}
use Rattle.terms.specs.Terms.{enabled, side_number}
use Rattle.settings.specs.declared.fibre.FibreSettings.{FibreSettings}
use Rattle.settings.specs.Settings.{of_strip}
use Rattle.strips.specs.Fibre.{side_of, counts, counted_strips}

-- those of the strips from first up to strip that count are at the front of the row
pub record Gathered (fibre : FibreSettings) (values row : List ℕ) (first strip count : ℕ) : Type 0 where
  pub long : length row ≡ 128
  pub few : count ≤ strip - first
  pub here : take count row ≡ map (λ s. get_or values s 0) (filter (counts fibre) (range_with_len first (strip - first)))

-- a strip from the first of a chip on lies on that chip
pub on_chip : (side : Side) (s : ℕ) → 128 * side_number side ≤ s → s < 128 * side_number side + 128 → side_of s ≡ side
on_chip Left s low high = simp (lt-ltb s 128 (omega arith))
on_chip Right s low high = simp (le-ltb s 128 (omega arith))

-- on an enabled chip the valid strips count, on another none does
pub counts_valid : (fibre : FibreSettings) (side : Side) (s : ℕ) → side_of s ≡ side → enabled fibre.enable side ≡ true → counts fibre s ≡ (of_strip fibre s).valid
counts_valid fibre side s on e = rw (on, e)

counts_none : (fibre : FibreSettings) (side : Side) (s : ℕ) → side_of s ≡ side → enabled fibre.enable side ≡ false → counts fibre s ≡ false
counts_none fibre side s on e = rw (on, e)

kept_none : (p : ℕ → Bool) (a n : ℕ) → ((k : ℕ) → a ≤ k → k < a + n → p k ≡ false) → filter p (range_with_len a n) ≡ []
kept_none p a zero none = refl
kept_none p a (suc n) none =
    let here : p a ≡ false = none a (omega arith) (omega arith) in
    rw here (kept_none p (a + 1) n (λ k low high. none k (omega arith) (omega arith)))

pub none_counted : (fibre : FibreSettings) (side : Side) → enabled fibre.enable side ≡ false → counted_strips fibre side ≡ []
unfolding counted_strips
none_counted fibre side e =
    kept_none (counts fibre) (128 * side_number side) 128 (λ k low high. counts_none fibre side k (on_chip side k low high) e)

map_same : (xs : List ℕ) → map (λ x. x) xs ≡ xs
map_same [] = refl
map_same (x ∷ xs) = ap (λ (r : List ℕ). x ∷ r) (map_same xs)

kept_more : (p : ℕ → Bool) (a n j : ℕ) → a + n ≡ j → filter p (range_with_len a (n + 1)) ≡ filter p (range_with_len a n) ++ cond (p j) (j ∷ []) []
kept_more p a n j e = simp map_same at (filter_of_map_range_with_len_more p (λ x. x) a n j e)

pub gathered_none : (fibre : FibreSettings) (values row : List ℕ) (first : ℕ) → length row ≡ 128 → Gathered fibre values row first first 0
gathered_none fibre values row first long =
    let none : first - first ≡ 0 = omega arith in
    record { long = long; few = omega arith; here = rw none }

module _ (fibre : FibreSettings) (values row : List ℕ) (first strip count : ℕ) (so_far : Gathered fibre values row first strip count) (low : first ≤ strip) (high : strip < first + 128) where
  one_on : strip + 1 - first ≡ strip - first + 1
  one_on = omega arith

  back : first + (strip - first) ≡ strip
  back = omega arith

  more_by : (v : Bool) → counts fibre strip ≡ v
      → Gathered fibre values (set row count (get_or values strip 0)) first (strip + 1) (count + bool_byte v)
  more_by true e =
      let inside : count < length row = omega (arith, so_far.long, so_far.few) in
      record {
        long = simp length-set so_far.long;
        few = omega (arith, so_far.few);
        here =
            ap (λ (n : ℕ). take n (set row count (get_or values strip 0))) (add-one count)
            ∙ (take-suc-set row count (get_or values strip 0) inside
            ∙ (ap (λ (xs : List ℕ). xs ++ get_or values strip 0 ∷ []) so_far.here
            ∙ (sym (map-append (λ s. get_or values s 0) (filter (counts fibre) (range_with_len first (strip - first))) (strip ∷ []))
            ∙ ap (map (λ s. get_or values s 0))
            (sym (ap (λ (n : ℕ). filter (counts fibre) (range_with_len first n)) one_on
            ∙ (kept_more (counts fibre) first (strip - first) strip back
            ∙ ap (λ (b : Bool). filter (counts fibre) (range_with_len first (strip - first)) ++ cond b (strip ∷ []) []) e))))));
      }
  more_by false e =
      record {
        long = simp length-set so_far.long;
        few = omega (arith, so_far.few);
        here =
            ap (λ (n : ℕ). take n (set row count (get_or values strip 0))) (add-zero count)
            ∙ (take-set row count (get_or values strip 0)
            ∙ (so_far.here
            ∙ ap (map (λ s. get_or values s 0))
            (sym (ap (λ (n : ℕ). filter (counts fibre) (range_with_len first n)) one_on
            ∙ (kept_more (counts fibre) first (strip - first) strip back
            ∙ (ap (λ (b : Bool). filter (counts fibre) (range_with_len first (strip - first)) ++ cond b (strip ∷ []) []) e
            ∙ append-nil (filter (counts fibre) (range_with_len first (strip - first)))))))));
      }

pub gathered_more : (fibre : FibreSettings) (side : Side) (values row : List ℕ) (first strip count : ℕ) → first ≡ 128 * side_number side
    → enabled fibre.enable side ≡ true → first ≤ strip → strip < first + 128 → Gathered fibre values row first strip count
    → Gathered fibre values (set row count (get_or values strip 0)) first (strip + 1) (count + bool_byte ((of_strip fibre strip).valid))
gathered_more fibre side values row first strip count at on low high so_far =
    more_by fibre values row first strip count so_far low high ((of_strip fibre strip).valid)
    (counts_valid fibre side strip (on_chip side strip (omega arith) (omega arith)) on)

pub gathered_all : (fibre : FibreSettings) (side : Side) (values row : List ℕ) (first strip count : ℕ) → first ≡ 128 * side_number side
    → strip ≡ first + 128 → Gathered fibre values row first strip count
    → take count row ≡ map (λ s. get_or values s 0) (counted_strips fibre side)
unfolding counted_strips
gathered_all fibre side values row first strip count at end so_far =
    let all : strip - first ≡ 128 = omega arith in
    so_far.here ∙ ap (map (λ s. get_or values s 0)) (ap (λ (n : ℕ). filter (counts fibre) (range_with_len first n)) all ∙ ap (λ (a : ℕ). filter (counts fibre) (range_with_len a 128)) at)
