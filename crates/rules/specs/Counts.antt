-- Counting the values of a list that pass a test, and those below a number.
-- Assumes nothing.
use Rattle.std.specs.Prelude.{◌≡◌, ℕ, suc, ◌+◌, ◌<◌, ◌≤◌, Bool, true, false, cond, ltb, leb, List, [], ◌∷◌, length, count_by, nat_eq, nat_le, nat_lt, refl}
use Rattle.std.proofs.Common.{ap, arith}
use Rattle.std.proofs.Math.Path.{fun_ext}
use Rattle.std.specs.List.{ContainsAt, AllByRecursion}
use Rattle.std.proofs.lemmas.List.Sums.{sum_by-cons}
use Rattle.std.proofs.lemmas.Bool.{lt-ltb, leb-true, both_ways}
use Rattle.std.proofs.lemmas.Bool.Decides.{nat_tests}
use Rattle.rules.specs.Rules.{below, at_or_below}

-- what one value adds to a count
abbrev pub mark : Bool → ℕ
mark b = cond b 1 0

pub count_cons : (p : ℕ → Bool) (v : ℕ) (vs : List ℕ) → count_by p (v ∷ vs) ≡ mark (p v) + count_by p vs
count_cons p v vs = sum_by-cons (λ x. mark (p x)) v vs

marks_le : (a b : Bool) (m n : ℕ) → (a ≡ true → b ≡ true) → m ≤ n → mark a + m ≤ mark b + n
marks_le true true m n t h = omega arith
marks_le true false m n t h = absurd (both_ways false refl (t refl))
marks_le false true m n t h = omega arith
marks_le false false m n t h = omega arith

-- a test that passes wherever another does counts as many at least
pub count_le : (p q : ℕ → Bool) → ((v : ℕ) → p v ≡ true → q v ≡ true) → (vs : List ℕ) → count_by p vs ≤ count_by q vs
count_le p q h [] = omega arith
count_le p q h (v ∷ vs) =
    rw (count_cons p v vs, count_cons q v vs) (marks_le (p v) (q v) (count_by p vs) (count_by q vs) (h v) (count_le p q h vs))

-- the count of one test is the sum of the counts of two others
pub count_split : (p q r : ℕ → Bool) → ((v : ℕ) → mark (p v) ≡ mark (q v) + mark (r v)) → (vs : List ℕ) → count_by p vs ≡ count_by q vs + count_by r vs
count_split p q r h [] = refl
count_split p q r h (v ∷ vs) =
    let rest = count_split p q r h vs in
    rw (count_cons p v vs, count_cons q v vs, count_cons r v vs) (omega (arith, h v, rest))

-- one number more
pub below_more : (x : ℕ) (vs : List ℕ) → below (x + 1) vs ≡ below x vs + count_by (λ v. nat_eq v x) vs
below_more x vs = count_split (λ v. ltb v (x + 1)) (λ v. ltb v x) (λ v. nat_eq v x) (λ v. grind (arith, nat_tests)) vs

-- at or below x is below x + 1
pub upto_below : (x : ℕ) (vs : List ℕ) → at_or_below x vs ≡ below (x + 1) vs
upto_below x vs = let same : (v : ℕ) → nat_le v x ≡ ltb v (x + 1) = λ v. grind (arith, nat_tests) in ap (λ p. count_by p vs) (fun_ext same)

-- the values up to y lie below any larger x
pub upto_le_below : (y x : ℕ) → y < x → (vs : List ℕ) → at_or_below y vs ≤ below x vs
upto_le_below y x less = count_le (λ v. leb v y) (λ v. ltb v x) (λ v h. lt-ltb v x (omega (arith, leb-true v y h)))

-- nothing lies below 0
pub below_zero : (vs : List ℕ) → below 0 vs ≡ 0
below_zero [] = refl
below_zero (v ∷ vs) =
    let here : mark (nat_lt v 0) ≡ 0 = grind (arith, nat_tests) in
    rw (count_cons (λ u. ltb u 0) v vs) (omega (arith, here, below_zero vs))

-- all values lie below a number that is above each of them
pub below_all : (x : ℕ) (vs : List ℕ) → AllByRecursion (λ v. v < x) vs → below x vs ≡ length vs
below_all x [] h = refl
below_all x (v ∷ vs) h =
    let rest = below_all x vs h.1 in
    let here : mark (nat_lt v x) ≡ 1 = ap mark (lt-ltb v x h.0) in
    rw (count_cons (λ u. ltb u x) v vs) (omega (arith, here, rest))

later : (vs : List ℕ) (v w : ℕ) → ContainsAt vs w → ContainsAt (v ∷ vs) w
later vs v w has = (suc has.0, omega (arith, has.1), λ d. has.2 d)

-- a test that is passed is passed by some value
pub count_has : (p : ℕ → Bool) (vs : List ℕ) → 0 < count_by p vs → (v : ℕ) × (p v ≡ true) × ContainsAt vs v
count_has p [] h = absurd (omega arith)
count_has p (v ∷ vs) h = at (p v) refl (rw (count_cons p v vs) at h) (count_has p vs)
  where
    at : (b : Bool) → p v ≡ b → 0 < mark b + count_by p vs → (0 < count_by p vs → (w : ℕ) × (p w ≡ true) × ContainsAt vs w) → (w : ℕ) × (p w ≡ true) × ContainsAt (v ∷ vs) w
    at true e l rest = (v, e, (0, omega arith, λ d. refl))
    at false e l rest = let (w, t, has) = rest (omega arith) in (w, t, later vs v w has)
