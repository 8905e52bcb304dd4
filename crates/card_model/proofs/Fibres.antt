-- What holds of the words about each of the twelve fibres.
-- Assumes nothing.
use Rattle.std.proofs.Common.{◌≡◌, ℕ, zero, suc, ◌+◌, ◌<◌, ◌≤◌, Bool, true, false, cond, List, [], ◌∷◌, ◌++◌, map, length, get_or, Some, None, sum_by, Option, sym, refl, ap, ◌∙◌, subst, ap₂, ⊎_elim, arith}
use mathlib.Core.Path.{subst⁻¹}
use Rattle.std.specs.List.{range_with_len, flat_map, AllByRecursion}
use Rattle.std.proofs.lemmas.List.FromFn.{get_or-range_with_len, length-map-range_with_len, get_or-map-range_with_len}
use Rattle.std.proofs.ByRecursion.{All-from_get_or, All-get_or}
use Rattle.std.proofs.lemmas.List.{length-append}
use Rattle.std.proofs.lemmas.List.Sums.{sum_by-cons}
use Rattle.std.proofs.lemmas.Bool.{cases_eq}
use Rattle.card_model.specs.Fibres.{for_fibres, total, in_fibre_order, first_of, lowest}

-- what holds of each fibre holds of the list of fibres
all_fibres : (P : ℕ → Type 0) → ((f : ℕ) → f < 12 → P f) → AllByRecursion P (range_with_len 0 12)
all_fibres P h =
    All-from_get_or P (range_with_len 0 12) 0
    (λ i below.
    let e : get_or (range_with_len 0 12) i 0 ≡ 0 + i = get_or-range_with_len 0 12 i 0 below in
    subst⁻¹ P e (h (0 + i) (omega arith)))

each_fibre : (P : ℕ → Type 0) → AllByRecursion P (range_with_len 0 12) → (f : ℕ) → f < 12 → P f
each_fibre P h f below =
    let e : get_or (range_with_len 0 12) f 0 ≡ 0 + f = get_or-range_with_len 0 12 f 0 below in
    let z : 0 + f ≡ f = omega arith in
    subst P (e ∙ z) (All-get_or P (range_with_len 0 12) f 0 below h)

same_map : {X : Type 0} (g h : ℕ → X) (fs : List ℕ) → AllByRecursion (λ f. g f ≡ h f) fs → map g fs ≡ map h fs
same_map g h [] a = refl
same_map g h (f ∷ fs) a = ap₂ (λ x xs. x ∷ xs) a.0 (same_map g h fs a.1)

same_sum : (g h : ℕ → ℕ) (fs : List ℕ) → AllByRecursion (λ f. g f ≡ h f) fs → sum_by g fs ≡ sum_by h fs
same_sum g h [] a = refl
same_sum g h (f ∷ fs) a =
    sum_by-cons g f fs ∙ (ap₂ (λ (m n : ℕ). m + n) a.0 (same_sum g h fs a.1) ∙ sym (sum_by-cons h f fs))

sum_add : (g h : ℕ → ℕ) (fs : List ℕ) → sum_by (λ f. g f + h f) fs ≡ sum_by g fs + sum_by h fs
sum_add g h [] = refl
sum_add g h (f ∷ fs) =
    omega (arith, sum_by-cons (λ x. g x + h x) f fs, sum_by-cons g f fs, sum_by-cons h f fs, sum_add g h fs)

same_joined : (g h : ℕ → List ℕ) (fs : List ℕ) → AllByRecursion (λ f. g f ≡ h f) fs → flat_map g fs ≡ flat_map h fs
same_joined g h [] a = refl
same_joined g h (f ∷ fs) a = ap₂ (λ (xs ys : List ℕ). xs ++ ys) a.0 (same_joined g h fs a.1)

length_joined : (g : ℕ → List ℕ) (fs : List ℕ) → length (flat_map g fs) ≡ sum_by (λ f. length (g f)) fs
length_joined g [] = refl
length_joined g (f ∷ fs) =
    omega (arith, length-append (g f) (flat_map g fs), length_joined g fs, sum_by-cons (λ x. length (g x)) f fs)

same_first : (p q : ℕ → Bool) (fs : List ℕ) → AllByRecursion (λ f. p f ≡ q f) fs → first_of p fs ≡ first_of q fs
same_first p q [] a = refl
same_first p q (f ∷ fs) a = ap₂ (λ (b : Bool) (o : Option ℕ). cond b (Some f) o) a.0 (same_first p q fs a.1)

-- a test that no fibre passes has no first one, and the other way round
first_none : (p : ℕ → Bool) (fs : List ℕ) → AllByRecursion (λ f. p f ≡ false) fs → first_of p fs ≡ None
first_none p [] a = refl
first_none p (f ∷ fs) a = ap (λ (b : Bool). cond b (Some f) (first_of p fs)) a.0 ∙ first_none p fs a.1

none_first : (p : ℕ → Bool) (fs : List ℕ) → first_of p fs ≡ None → AllByRecursion (λ f. p f ≡ false) fs
none_first p [] e = tt
none_first p (f ∷ fs) e = split (p f) refl e (none_first p fs)
  where
    split : (b : Bool) → p f ≡ b → cond b (Some f) (first_of p fs) ≡ None
        → (first_of p fs ≡ None → AllByRecursion (λ x. p x ≡ false) fs) → (p f ≡ false) × AllByRecursion (λ x. p x ≡ false) fs
    split true q w more = let z : ◌≡◌ {A = ℕ} 0 1 = cc in absurd (omega arith)
    split false q w more = (q, more w)

-- the first one that passes comes before all others that do
pub record First (p : ℕ → Bool) (a n f : ℕ) : Type 0 where
  pub low : a ≤ f
  pub high : f < a + n
  pub passes : p f ≡ true
  pub no_lower : (g : ℕ) → a ≤ g → g < f → p g ≡ false

some_first : (p : ℕ → Bool) (a n f : ℕ) → first_of p (range_with_len a n) ≡ Some f → First p a n f
some_first p a zero f e = let z : ◌≡◌ {A = ℕ} 0 1 = cc in absurd (omega arith)
some_first p a (suc n) f e = split (p a) refl e (some_first p (a + 1) n f)
  where
    split : (b : Bool) → p a ≡ b → cond b (Some a) (first_of p (range_with_len (a + 1) n)) ≡ Some f
        → (first_of p (range_with_len (a + 1) n) ≡ Some f → First p (a + 1) n f) → First p a (suc n) f
    split true q w more =
        let i : a ≡ f = cc in
        record { low = omega arith; high = omega arith; passes = subst (λ (g : ℕ). p g ≡ true) i q; no_lower = λ g l h. absurd (omega arith) }
    split false q w more =
        let m = more w in
        record {
          low = omega arith;
          high = omega arith;
          passes = m.passes;
          no_lower =
              λ g l h. ⊎_elim (λ i. subst⁻¹ (λ (x : ℕ). p x ≡ false) i q) (λ i. m.no_lower g (omega arith) h) (cases_eq g a);
        }

-- something for each fibre

pub length_for : {X : Type 0} (g : ℕ → X) → length (for_fibres g) ≡ 12
unfolding for_fibres
length_for g = length-map-range_with_len g 0 12

pub get_or_for : {X : Type 0} (g : ℕ → X) (f : ℕ) (d : X) → f < 12 → get_or (for_fibres g) f d ≡ g f
unfolding for_fibres
get_or_for g f d h = get_or-map-range_with_len g 0 12 f f d h (omega arith)

pub for_same : {X : Type 0} (g h : ℕ → X) → ((f : ℕ) → f < 12 → g f ≡ h f) → for_fibres g ≡ for_fibres h
unfolding for_fibres
for_same g h e = same_map g h (range_with_len 0 12) (all_fibres (λ f. g f ≡ h f) e)

-- sums over the fibres

pub total_same : (g h : ℕ → ℕ) → ((f : ℕ) → f < 12 → g f ≡ h f) → total g ≡ total h
unfolding total
total_same g h e = same_sum g h (range_with_len 0 12) (all_fibres (λ f. g f ≡ h f) e)

pub total_add : (g h : ℕ → ℕ) → total (λ f. g f + h f) ≡ total g + total h
unfolding total
total_add g h = sum_add g h (range_with_len 0 12)

pub total_zero : (g : ℕ → ℕ) → ((f : ℕ) → f < 12 → g f ≡ 0) → total g ≡ 0
unfolding total
total_zero g e = same_sum g (λ f. 0) (range_with_len 0 12) (all_fibres (λ f. g f ≡ 0) e)

-- bytes in fibre order

pub in_order_same : (g h : ℕ → List ℕ) → ((f : ℕ) → f < 12 → g f ≡ h f) → in_fibre_order g ≡ in_fibre_order h
unfolding in_fibre_order
in_order_same g h e = same_joined g h (range_with_len 0 12) (all_fibres (λ f. g f ≡ h f) e)

pub length_in_order : (g : ℕ → List ℕ) → length (in_fibre_order g) ≡ total (λ f. length (g f))
unfolding in_fibre_order total
length_in_order g = length_joined g (range_with_len 0 12)

-- the lowest fibre that passes a test

pub lowest_same : (p q : ℕ → Bool) → ((f : ℕ) → f < 12 → p f ≡ q f) → lowest p ≡ lowest q
unfolding lowest
lowest_same p q e = same_first p q (range_with_len 0 12) (all_fibres (λ f. p f ≡ q f) e)

pub lowest_none : (p : ℕ → Bool) → ((f : ℕ) → f < 12 → p f ≡ false) → lowest p ≡ None
unfolding lowest
lowest_none p e = first_none p (range_with_len 0 12) (all_fibres (λ f. p f ≡ false) e)

pub none_lowest : (p : ℕ → Bool) → lowest p ≡ None → (f : ℕ) → f < 12 → p f ≡ false
unfolding lowest
none_lowest p e = each_fibre (λ f. p f ≡ false) (none_first p (range_with_len 0 12) e)

pub some_lowest : (p : ℕ → Bool) (f : ℕ) → lowest p ≡ Some f → First p 0 12 f
unfolding lowest
some_lowest p f e = some_first p 0 12 f e
