-- A strip belongs if and only if it is a hit or lies between two hits.
use Rattle.std.proofs.Common.{◌≡◌, ℕ, zero, suc, ◌+◌, ◌-◌, ◌<◌, ◌≤◌, Bool, true, false, not, ◌&&◌, ◌||◌, ltb, ◌⊎◌, List, [], ◌∷◌, length, get_or, sym, refl, ap, ◌∙◌, inl, inr, ⊎_elim, arith}
use Rattle.std.proofs.lemmas.List.{get_or_past}
use Rattle.std.proofs.lemmas.Bool.{and_parts, and_from, and_right, or_cases, or_left, or_right, lt-ltb, le-ltb, cases_lt}
use Rattle.clusters.specs.declared.reached.Reached.{Reached}
use Rattle.clusters.specs.Patterns.{nothing, window, some_fits, patterns, belongs}
use Rattle.clusters.proofs.Windows.{place}
use Rattle.clusters.specs.Laws.{at, before, hit, between_hits, BelongsByHits}

-- ---- a test of every case
abbrev every : (Bool → Bool) → Bool
every f = f true && f false

every_at : (f : Bool → Bool) → every f ≡ true → (b : Bool) → f b ≡ true
every_at f h true = (and_parts (f true) (f false) h).0
every_at f h false = (and_parts (f true) (f false) h).1

abbrev same : Bool → Bool → Bool
same true b = b
same false b = not b

same_true : (a b : Bool) → same a b ≡ true → a ≡ b
same_true true true e = refl
same_true false false e = refl
same_true true false e = sym e
same_true false true e = e

-- a strip is a hit, by what it reaches and whether its neighbours reach thresh1
abbrev is_hit : Bool → Bool → Bool → Bool → Bool
is_hit left t1 t2 right = t2 || (t1 && (left || right))

abbrev by_patterns : (a b b2 c c2 d d2 e : Bool) → Bool
by_patterns a b b2 c c2 d d2 e =
    some_fits patterns
    (record { thresh1 = a; thresh2 = false }
    ∷ record { thresh1 = b; thresh2 = b2 }
    ∷ record { thresh1 = c; thresh2 = c2 }
    ∷ record { thresh1 = d; thresh2 = d2 }
    ∷ record { thresh1 = e; thresh2 = false }
    ∷ [])

-- the patterns ask just for that, at the thresholds of five strips
abbrev agrees : (a b b2 c c2 d d2 e : Bool) → Bool
agrees a b b2 c c2 d d2 e = same (by_patterns a b b2 c c2 d d2 e) (is_hit b c c2 d || (is_hit a b b2 c && is_hit c d d2 e))

agreed : (a b b2 c c2 d d2 e : Bool) → agrees a b b2 c c2 d d2 e ≡ true
agreed a b b2 c c2 d d2 e =
    let of_e : Bool → Bool → Bool → Bool → Bool → Bool → Bool → Bool = λ a b b2 c c2 d d2. every (agrees a b b2 c c2 d d2) in
    let of_d2 : Bool → Bool → Bool → Bool → Bool → Bool → Bool = λ a b b2 c c2 d. every (of_e a b b2 c c2 d) in
    let of_d : Bool → Bool → Bool → Bool → Bool → Bool = λ a b b2 c c2. every (of_d2 a b b2 c c2) in
    let of_c2 : Bool → Bool → Bool → Bool → Bool = λ a b b2 c. every (of_d a b b2 c) in
    let of_c : Bool → Bool → Bool → Bool = λ a b b2. every (of_c2 a b b2) in
    let of_b2 : Bool → Bool → Bool = λ a b. every (of_c a b) in
    let of_b : Bool → Bool = λ a. every (of_b2 a) in
    let all : every of_b ≡ true = refl in
    every_at (agrees a b b2 c c2 d d2)
    (every_at (of_e a b b2 c c2 d)
    (every_at (of_d2 a b b2 c c2)
    (every_at (of_d a b b2 c)
    (every_at (of_c2 a b b2)
    (every_at (of_c a b)
    (every_at (of_b2 a) (every_at of_b all a) b)
    b2) c) c2) d) d2) e

-- the five strips around strip n
around : (a b c d e : Reached) →
    some_fits patterns (a ∷ b ∷ c ∷ d ∷ e ∷ [])
    ≡ (is_hit b.thresh1 c.thresh1 c.thresh2 d.thresh1
    || (is_hit a.thresh1 b.thresh1 b.thresh2 c.thresh1 && is_hit c.thresh1 d.thresh1 d.thresh2 e.thresh1))
around a b c d e =
    same_true (by_patterns a.thresh1 b.thresh1 b.thresh2 c.thresh1 c.thresh2 d.thresh1 d.thresh2 e.thresh1)
    (is_hit b.thresh1 c.thresh1 c.thresh2 d.thresh1
    || (is_hit a.thresh1 b.thresh1 b.thresh2 c.thresh1 && is_hit c.thresh1 d.thresh1 d.thresh2 e.thresh1))
    (agreed a.thresh1 b.thresh1 b.thresh2 c.thresh1 c.thresh2 d.thresh1 d.thresh2 e.thresh1)

-- ---- the strips by their places
-- strip n−2, if there is one
abbrev before2 : List Reached → ℕ → Reached
before2 strips n = get_or (nothing ∷ nothing ∷ strips) n nothing

window_is : (strips : List Reached) (n : ℕ) →
    window strips n ≡ before2 strips n ∷ before strips n ∷ at strips n ∷ at strips (n + 1) ∷ at strips (n + 2) ∷ []
window_is strips n =
    let front = nothing ∷ nothing ∷ strips in
    let e0 : get_or front (n + 0) nothing ≡ before2 strips n = place front (n + 0) n (omega arith) in
    let e1 : get_or front (n + 1) nothing ≡ before strips n = place front (n + 1) (suc n) (omega arith) in
    let e2 : get_or front (n + 2) nothing ≡ at strips n = place front (n + 2) (suc (suc n)) (omega arith) in
    let e3 : get_or front (n + 3) nothing ≡ at strips (n + 1) = place front (n + 3) (suc (suc (n + 1))) (omega arith) in
    let e4 : get_or front (n + 4) nothing ≡ at strips (n + 2) = place front (n + 4) (suc (suc (n + 2))) (omega arith) in
    cc

abbrev hit_before : List Reached → ℕ → Bool
hit_before strips n = is_hit (before2 strips n).thresh1 (before strips n).thresh1 (before strips n).thresh2 (at strips n).thresh1

abbrev hit_behind : List Reached → ℕ → Bool
hit_behind strips n = is_hit (at strips n).thresh1 (at strips (n + 1)).thresh1 (at strips (n + 1)).thresh2 (at strips (n + 2)).thresh1

by_window : (strips : List Reached) (n : ℕ) → belongs strips n ≡ (hit strips n || (hit_before strips n && hit_behind strips n))
unfolding belongs
by_window strips n =
    ap (some_fits patterns) (window_is strips n)
    ∙ around (before2 strips n) (before strips n) (at strips n) (at strips (n + 1)) (at strips (n + 2))

-- the strip behind is a hit only if it is on the chip
behind_is : (strips : List Reached) (n : ℕ) → hit strips (n + 1) ≡ hit_behind strips n
behind_is strips n =
    let e1 : before strips (n + 1) ≡ at strips n = place (nothing ∷ strips) (n + 1) (suc n) (omega arith) in
    let e2 : at strips (n + 1 + 1) ≡ at strips (n + 2) = place strips (n + 1 + 1) (n + 2) (omega arith) in
    ap (λ s. is_hit s.thresh1 (at strips (n + 1)).thresh1 (at strips (n + 1)).thresh2 (at strips (n + 1 + 1)).thresh1) e1
    ∙ ap (λ s. is_hit (at strips n).thresh1 (at strips (n + 1)).thresh1 (at strips (n + 1)).thresh2 s.thresh1) e2

behind_past : (strips : List Reached) (n : ℕ) → length strips ≤ n + 1 → hit_behind strips n ≡ false
behind_past strips n h =
    ap (λ s. is_hit (at strips n).thresh1 s.thresh1 s.thresh2 (at strips (n + 2)).thresh1) (get_or_past strips (n + 1) nothing h)

-- so is the strip before
before_is : (strips : List Reached) (n : ℕ) → hit strips (suc n - 1) ≡ hit_before strips (suc n)
before_is strips n =
    let e0 : suc n - 1 ≡ n = omega arith in
    let e1 : at strips (n + 1) ≡ at strips (suc n) = place strips (n + 1) (suc n) (omega arith) in
    ap (hit strips) e0 ∙ ap (λ s. is_hit (before strips n).thresh1 (at strips n).thresh1 (at strips n).thresh2 s.thresh1) e1

between_is : (strips : List Reached) (n : ℕ) → between_hits strips n ≡ (hit_before strips n && hit_behind strips n)
between_is strips zero = refl
between_is strips (suc n) =
    let sides : Bool = hit strips (suc n - 1) && hit strips (suc n + 1) in
    ap (λ b. (b && ltb (suc n + 1) (length strips)) && sides) (lt-ltb 0 (suc n) (omega arith))
    ∙ ⊎_elim
    (λ h.
    ap (λ b. b && sides) (lt-ltb (suc n + 1) (length strips) h)
    ∙ ap (λ b. b && hit strips (suc n + 1)) (before_is strips n)
    ∙ ap (λ b. hit_before strips (suc n) && b) (behind_is strips (suc n)))
    (λ h.
    ap (λ b. b && sides) (le-ltb (suc n + 1) (length strips) h)
    ∙ sym (and_right (hit_before strips (suc n)) (hit_behind strips (suc n)) (behind_past strips (suc n) h)))
    (cases_lt (suc n + 1) (length strips))

pub belongs_by_hits : BelongsByHits
belongs_by_hits strips n h = by_window strips n ∙ ap (λ b. hit strips n || b) (sym (between_is strips n))

-- ---- no strip alone is free
-- a hit belongs
hit_belongs : (strips : List Reached) (n : ℕ) → n < length strips → hit strips n ≡ true → belongs strips n ≡ true
hit_belongs strips n h e = belongs_by_hits strips n h ∙ or_left (hit strips n) (between_hits strips n) e

-- a strip that belongs is a hit, or its neighbours on both sides are
belongs_cases : (strips : List Reached) (n : ℕ) → n < length strips → belongs strips n ≡ true →
    (hit strips n ≡ true) ⊎ ((ltb 0 n ≡ true) × (ltb (n + 1) (length strips) ≡ true) × (hit strips (n - 1) ≡ true) × (hit strips (n + 1) ≡ true))
belongs_cases strips n h e =
    ⊎_elim inl
    (λ b.
    let p = and_parts (ltb 0 n && ltb (n + 1) (length strips)) (hit strips (n - 1) && hit strips (n + 1)) b in
    let q = and_parts (ltb 0 n) (ltb (n + 1) (length strips)) p.0 in
    let r = and_parts (hit strips (n - 1)) (hit strips (n + 1)) p.1 in
    inr (q.0, q.1, r.0, r.1))
    (or_cases (hit strips n) (between_hits strips n) (sym (belongs_by_hits strips n h) ∙ e))

-- a strip between two that belong belongs
pub no_single_gap :
    (strips : List Reached) (n : ℕ) →
    n + 2 < length strips →
    belongs strips n ≡ true →
    belongs strips (n + 2) ≡ true →
    belongs strips (n + 1) ≡ true
no_single_gap strips n h e f =
    let in0 : n < length strips = omega arith in
    let in1 : n + 1 < length strips = omega arith in
    let back : n + 2 - 1 ≡ n + 1 = omega arith in
    let here : n + 1 - 1 ≡ n = omega arith in
    let next : n + 1 + 1 ≡ n + 2 = omega arith in
    ⊎_elim
    (λ left.
    ⊎_elim
    (λ right.
    belongs_by_hits strips (n + 1) in1
    ∙ or_right (hit strips (n + 1)) (between_hits strips (n + 1))
    (and_from (ltb 0 (n + 1) && ltb (n + 1 + 1) (length strips)) (hit strips (n + 1 - 1) && hit strips (n + 1 + 1))
    (and_from (ltb 0 (n + 1)) (ltb (n + 1 + 1) (length strips)) (lt-ltb 0 (n + 1) (omega arith)) (lt-ltb (n + 1 + 1) (length strips) (omega arith)))
    (and_from (hit strips (n + 1 - 1)) (hit strips (n + 1 + 1)) (ap (hit strips) here ∙ left) (ap (hit strips) next ∙ right))))
    (λ right. hit_belongs strips (n + 1) in1 (sym (ap (hit strips) back) ∙ right.2))
    (belongs_cases strips (n + 2) h f))
    (λ left. hit_belongs strips (n + 1) in1 left.3)
    (belongs_cases strips n in0 e)
