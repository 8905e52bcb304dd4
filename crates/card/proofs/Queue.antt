-- What a ring does as a queue.
-- Assumes nothing.
use Rattle.std.proofs.Common.{◌≡◌, ℕ, zero, suc, ◌+◌, ◌-◌, ◌<◌, ◌≢◌, List, [], ◌∷◌, ◌++◌, map, length, get_or, drop, set, Some, None, sym, refl, ap, ◌∙◌, arith}
use Rattle.std.specs.List.{range_with_len}
use Rattle.std.proofs.lemmas.List.FromFn.{length-map-range_with_len, get_or-map-range_with_len, map-range_with_len_more}
use Rattle.std.proofs.lemmas.List.{same_lists, length-drop, get_or-drop, get_or-set_same, get_or-set_other}
use Rattle.strips.proofs.Rows.{same_map}
use Rattle.card.specs.declared.waiting.Waiting.TheInside.{Inside}
use Rattle.card.specs.Queue.{round, event_at, queued, IsInRing, first_in}

pub queued_length : (w : Inside) → length (queued w) ≡ w.count
unfolding queued
queued_length w = length-map-range_with_len (event_at w.rows w.head) 0 w.count

pub fewer : (w : Inside) (events : List (List ℕ)) → queued w ≡ events → length events < 255 → w.count < 255
fewer w events is few = omega (arith, queued_length w, ap (λ (es : List (List ℕ)). length es) is)

pub queued_none : (w : Inside) → w.count ≡ 0 → queued w ≡ []
unfolding queued
queued_none w e = ap (λ (n : ℕ). map (event_at w.rows w.head) (range_with_len 0 n)) e

first_of_some : {X : Type 0} (g : ℕ → X) (n : ℕ) → 0 < n → first_in (map g (range_with_len 0 n)) ≡ Some (g 0)
first_of_some g zero h = absurd (omega arith)
first_of_some g (suc n) h = refl

pub front_none : (w : Inside) → w.count ≡ 0 → None ≡ first_in (queued w)
front_none w e = sym (ap (λ (xs : List (List ℕ)). first_in xs) (queued_none w e))

pub front_some : (w : Inside) → IsInRing w → (x : List ℕ) → 0 < w.count → x ≡ get_or w.rows w.head [] → Some x ≡ first_in (queued w)
unfolding queued
front_some w ring x h e =
    let start : round (w.head + 0) ≡ w.head = grind arith in
    sym (first_of_some (event_at w.rows w.head) w.count h ∙ ap Some (ap (λ (p : ℕ). get_or w.rows p []) start ∙ sym e))

pub pushed : (w w' : Inside) (x : List ℕ) → IsInRing w → length w.rows ≡ 255 → w.count < 255
    → w'.rows ≡ set w.rows (round (w.head + w.count)) x → w'.head ≡ w.head → w'.count ≡ w.count + 1
    → queued w' ≡ queued w ++ x ∷ []
unfolding queued
pushed w w' x ring long room rows head count =
    let g = event_at w.rows w.head in
    let h = event_at (set w.rows (round (w.head + w.count)) x) w.head in
    let n = w.count in
    let in_ring : round (w.head + n) < length w.rows = grind arith in
    let new : h n ≡ x = get_or-set_same w.rows (round (w.head + n)) x [] in_ring in
    let old : (k : ℕ) → k < n → h k ≡ g k = λ k l.
    let apart : round (w.head + k) ≢ round (w.head + n) = grind arith in
    get_or-set_other w.rows (round (w.head + n)) (round (w.head + k)) x [] apart
    in
    let same : map (event_at w'.rows w'.head) (range_with_len 0 w'.count) ≡ map h (range_with_len 0 (n + 1)) = cc in
    same ∙ (map-range_with_len_more h 0 n n (omega arith) ∙ cc (same_map h g 0 n (λ k from l. old k (omega arith))))

pub popped : (w w' : Inside) → IsInRing w → 0 < w.count → w'.rows ≡ w.rows → w'.head ≡ round (w.head + 1) → w'.count ≡ w.count - 1
    → queued w' ≡ drop 1 (queued w)
unfolding queued
popped w w' ring some rows head count =
    let g = event_at w.rows w.head in
    let h = event_at w.rows (round (w.head + 1)) in
    let n = w.count in
    let same : map (event_at w'.rows w'.head) (range_with_len 0 w'.count) ≡ map h (range_with_len 0 (n - 1)) = cc in
    same
    ∙ same_lists _ _ (length-map-range_with_len h 0 (n - 1) ∙ sym (length-drop 1 (map g (range_with_len 0 n)) ∙ ap (λ (m : ℕ). m - 1) (length-map-range_with_len g 0 n)))
    (λ k d l.
    let below : k < n - 1 = omega (arith, length-map-range_with_len h 0 (n - 1)) in
    let place : round (round (w.head + 1) + k) ≡ round (w.head + (1 + k)) = grind arith in
    get_or-map-range_with_len h 0 (n - 1) k k d below (omega arith)
    ∙ (ap (λ (p : ℕ). get_or w.rows p []) place
    ∙ sym (get_or-drop 1 (map g (range_with_len 0 n)) k d ∙ get_or-map-range_with_len g 0 n (1 + k) (1 + k) d (omega arith) (omega arith))))

pub popped_none : (w w' : Inside) → w.count ≡ 0 → w' ≡ w → queued w' ≡ drop 1 (queued w)
popped_none w w' none same =
    ap queued same ∙ (queued_none w none ∙ sym (ap (λ (xs : List (List ℕ)). drop 1 xs) (queued_none w none)))
