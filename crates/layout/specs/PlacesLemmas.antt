-- Where runs lie, in numbers: what the tests say, one more run at the end, and how much room runs take.
use Rattle.std.specs.Prelude.{◌≡◌, ℕ, ◌+◌, ◌-◌, ◌*◌, ◌/◌, ◌%◌, ◌<◌, ◌≤◌, Bool, true, false, not, ◌&&◌, ◌||◌, leb, ◌⊎◌, List, [], ◌∷◌, ◌++◌, length, take, ◌≢◌, nat_eq, nat_le, nat_lt, slice_index_or, refl}
use Rattle.std.proofs.Common.{sym, ap, ◌∙◌, inl, inr, ⊎_elim, arith}
use Rattle.std.specs.List.{AllByRecursion, sum_by}
use Rattle.std.proofs.lemmas.List.{take_more, take_all, length_push}
use Rattle.std.proofs.lemmas.List.Recursion.{is_sum_by}
use Rattle.std.proofs.lemmas.Bool.{and_parts, and_from, and_right, or_cases, leb-true, ltb-true, lt-ltb, eqb-false, not-true}
use Rattle.layout.specs.declared.run.Run.{Run}
use Rattle.layout.specs.Places.{placed, apart, spaced}
use Rattle.layout.specs.Limits.{on_fibre}

-- a strip of a fibre
abbrev pub OnFibre : Run → Type 0
OnFibre r = r.address < 256

pub placed_parts : (r : Run) → placed r ≡ true → (1 ≤ r.strips) × (r.address % 128 + r.strips ≤ 128)
placed_parts r e =
    let h = and_parts (nat_le 1 r.strips) (nat_le (r.address % 128 + r.strips) 128) e in
    (leb-true 1 r.strips h.0, leb-true (r.address % 128 + r.strips) 128 h.1)

-- two runs apart: the addresses rise, and the chips differ or two strips are free
pub apart_parts :
    (p q : Run) →
    apart p q ≡ true →
    (p.address < q.address) × ((p.address / 128 ≢ q.address / 128) ⊎ (p.address + p.strips + 2 ≤ q.address))
apart_parts p q e =
    let near : Bool = nat_eq (p.address / 128) (q.address / 128) in
    let free : Bool = leb (p.address + p.strips + 2) q.address in
    let h = and_parts (nat_lt p.address q.address) (not near || free) e in (
      ltb-true p.address q.address h.0,
      ⊎_elim (λ n. inl (eqb-false (p.address / 128) (q.address / 128) (not-true near n)))
          (λ f. inr (leb-true (p.address + p.strips + 2) q.address f))
          (or_cases (not near) free h.1),
    )

-- the parts of a list of spaced runs
pub spaced_head : (r : Run) (rs : List Run) → spaced (r ∷ rs) ≡ true → placed r ≡ true
spaced_head r [] e = e
spaced_head r (q ∷ rs) e = (and_parts (placed r) (apart r q && spaced (q ∷ rs)) e).0

pub spaced_next : (r q : Run) (rs : List Run) → spaced (r ∷ q ∷ rs) ≡ true → apart r q ≡ true
spaced_next r q rs e = (and_parts (apart r q) (spaced (q ∷ rs)) (and_parts (placed r) (apart r q && spaced (q ∷ rs)) e).1).0

pub spaced_tail : (r : Run) (rs : List Run) → spaced (r ∷ rs) ≡ true → spaced rs ≡ true
spaced_tail r [] e = refl
spaced_tail r (q ∷ rs) e = (and_parts (apart r q) (spaced (q ∷ rs)) (and_parts (placed r) (apart r q && spaced (q ∷ rs)) e).1).1

-- the bytes of the clusters on a list of runs: address, length, and one for each strip
abbrev pub taken : List Run → ℕ
taken [] = 0
taken (r ∷ rs) = 2 + r.strips + taken rs

taken_step :
    (a n b t : ℕ) →
    a % 128 + n ≤ 128 →
    a < b →
    b < 256 →
    (a / 128 ≢ b / 128) ⊎ (a + n + 2 ≤ b) →
    t + b + 2 * (b / 128) ≤ 260 →
    2 + n + t + a + 2 * (a / 128) ≤ 260
taken_step a n b t p l h (inl d) i = omega arith
taken_step a n b t p l h (inr f) i = omega arith

-- what runs from an address on can take: 260 bytes less the address, and two less on the right chip
pub taken_from :
    (r : Run) (rs : List Run) →
    spaced (r ∷ rs) ≡ true →
    AllByRecursion OnFibre (r ∷ rs) →
    taken (r ∷ rs) + r.address + 2 * (r.address / 128) ≤ 260
taken_from r [] e h =
    let p = placed_parts r e in
    let b = h.0 in omega arith
taken_from r (q ∷ rs) e h =
    let p = placed_parts r (spaced_head r (q ∷ rs) e) in
    let a = apart_parts r q (spaced_next r q rs e) in
    taken_step r.address r.strips q.address (taken (q ∷ rs)) p.1 a.0 h.1.0 a.1
    (taken_from q rs (spaced_tail r (q ∷ rs) e) h.1)

-- a chip's clusters take at most 130 bytes, and a fibre's 260
pub taken_most : (rs : List Run) → spaced rs ≡ true → AllByRecursion OnFibre rs → taken rs ≤ 260
taken_most [] e h = omega arith
taken_most (r ∷ rs) e h = let t = taken_from r rs e h in omega arith

-- each run takes three bytes or more
pub taken_least : (rs : List Run) → spaced rs ≡ true → 3 * length rs ≤ taken rs
taken_least [] e = omega arith
taken_least (r ∷ rs) e =
    let i = taken_least rs (spaced_tail r rs e) in
    let p = placed_parts r (spaced_head r rs e) in omega arith

-- a fibre has at most 86 runs
pub runs_most : (rs : List Run) → spaced rs ≡ true → AllByRecursion OnFibre rs → length rs ≤ 86
runs_most rs e h =
    let m = taken_most rs e h in
    let l = taken_least rs e in omega arith

-- ---- one more run at the end
regroup : (a b c d : Bool) → (a && (b && (c && d))) ≡ (a && (b && c) && d)
regroup false b c d = refl
regroup true false c d = refl
regroup true true c d = refl

-- one more run is spaced where it lies in its chip and apart from the last
pub spaced_push : (rs : List Run) (p r : Run) → spaced ((rs ++ p ∷ []) ++ r ∷ []) ≡ (spaced (rs ++ p ∷ []) && (apart p r && placed r))
spaced_push [] p r = refl
spaced_push (q ∷ []) p r = regroup (placed q) (apart q p) (placed p) (apart p r && placed r)
spaced_push (q ∷ s ∷ rs) p r =
    ap (λ b. placed q && (apart q s && b)) (spaced_push (s ∷ rs) p r)
    ∙ regroup (placed q) (apart q s) (spaced (s ∷ rs ++ p ∷ [])) (apart p r && placed r)

-- a run that is not in its chip cannot follow
pub spaced_unplaced : (rs : List Run) (r : Run) → placed r ≡ false → spaced (rs ++ r ∷ []) ≡ false
spaced_unplaced [] r e = e
spaced_unplaced (q ∷ []) r e = and_right (placed q) (apart q r && placed r) (and_right (apart q r) (placed r) e)
spaced_unplaced (q ∷ s ∷ rs) r e =
    and_right (placed q) (apart q s && spaced (s ∷ rs ++ r ∷ []))
    (and_right (apart q s) (spaced (s ∷ rs ++ r ∷ [])) (spaced_unplaced (s ∷ rs) r e))

and_true : (a b : Bool) → b ≡ true → (a && b) ≡ a
and_true true b e = e
and_true false b e = refl

-- one more run behind others: what counts is where the last of them lies
pub spaced_more :
    (rs : List Run) (last r : Run) →
    0 < length rs →
    slice_index_or rs (length rs - 1) last ≡ last →
    spaced rs ≡ true →
    placed r ≡ true →
    spaced (rs ++ r ∷ []) ≡ apart last r
spaced_more rs last r some is e f =
    let back : length rs - 1 + 1 ≡ length rs = omega arith in
    let within : length rs - 1 < length rs = omega arith in
    let front : List Run = take (length rs - 1) rs in
    let split : rs ≡ front ++ last ∷ [] =
    sym (take_all (length rs) rs (omega arith)) ∙ ap (λ n. take n rs) (sym back) ∙ take_more rs (length rs - 1) last within ∙ ap (λ q. front ++ q ∷ []) is in
    let whole : spaced (front ++ last ∷ []) ≡ true = sym (ap spaced split) ∙ e in
    ap (λ qs. spaced (qs ++ r ∷ [])) split
    ∙ spaced_push front last r
    ∙ ap (λ b. b && (apart last r && placed r)) whole
    ∙ and_true (apart last r) (placed r) f

-- ---- runs of a fibre
pub on_fibre_all : (rs : List Run) → on_fibre rs ≡ true → AllByRecursion OnFibre rs
on_fibre_all [] e = tt
on_fibre_all (r ∷ rs) e =
    let h = and_parts (nat_lt r.address 256) (on_fibre rs) e in
    (ltb-true r.address 256 h.0, on_fibre_all rs h.1)

pub on_fibre_push : (rs : List Run) (r : Run) → on_fibre rs ≡ true → r.address < 256 → on_fibre (rs ++ r ∷ []) ≡ true
on_fibre_push [] r e h = and_from (nat_lt r.address 256) true (lt-ltb r.address 256 h) refl
on_fibre_push (q ∷ rs) r e h =
    let p = and_parts (nat_lt q.address 256) (on_fibre rs) e in
    and_from (nat_lt q.address 256) (on_fibre (rs ++ r ∷ [])) p.0 (on_fibre_push rs r p.1 h)

-- where one more run is spaced, fewer than 86 stand before it
pub room_for_more : (rs : List Run) (r : Run) → on_fibre rs ≡ true → r.address < 256 → spaced (rs ++ r ∷ []) ≡ true → length rs < 86
room_for_more rs r f h e =
    let m = runs_most (rs ++ r ∷ []) e (on_fibre_all (rs ++ r ∷ []) (on_fibre_push rs r f h)) in
    let l = length_push rs r in omega arith

-- what the runs take, added up
pub taken_is_sum : (rs : List Run) → taken rs ≡ sum_by (λ r. 2 + r.strips) rs
taken_is_sum = is_sum_by taken (λ r. 2 + r.strips) refl (λ _ _. refl)
