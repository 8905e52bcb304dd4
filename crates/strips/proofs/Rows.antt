-- Lists of values, one for each strip of a row.
-- Assumes nothing.
use Rattle.std.proofs.Common.{◌≡◌, ℕ, zero, suc, ◌+◌, ◌<◌, ◌≤◌, Bool, true, false, cond, ◌⊎◌, List, [], ◌∷◌, map, length, get_or, filter, refl, ap, ◌∙◌, inl, inr, ⊎_elim, arith}
use Rattle.std.specs.List.{range_with_len, AllZip, AllByRecursion}
use Rattle.std.proofs.lemmas.Bool.{cond_both, both_ways, cases_eq}

-- what holds of every value of a function holds of its values along a list
pub all_of_map : {X Y : Type 0} (P : Y → Type 0) (f : X → Y) → ((x : X) → P (f x)) → (xs : List X) → AllByRecursion P (map f xs)
all_of_map P f h [] = tt
all_of_map P f h (x ∷ xs) = (h x, all_of_map P f h xs)

-- each of n numbers from a on lies there
pub all_counting : (P : ℕ → Type 0) (a n : ℕ) → ((k : ℕ) → a ≤ k → k < a + n → P k) → AllByRecursion P (range_with_len a n)
all_counting P a zero h = tt
all_counting P a (suc n) h = (h a (omega arith) (omega arith), all_counting P (a + 1) n (λ k l u. h k (omega arith) (omega arith)))

-- what holds of all in a list and of 0 holds at each place
pub all_at : (P : ℕ → Type 0) (xs : List ℕ) (i : ℕ) → AllByRecursion P xs → P 0 → P (get_or xs i 0)
all_at P [] i h z = z
all_at P (x ∷ xs) zero h z = h.0
all_at P (x ∷ xs) (suc i) h z = all_at P xs i h.1 z

-- two functions that agree on each of n numbers from a on
pub same_map : {X : Type 0} (f g : ℕ → X) (a n : ℕ) → ((k : ℕ) → a ≤ k → k < a + n → f k ≡ g k) → map f (range_with_len a n) ≡ map g (range_with_len a n)
same_map f g a zero h = refl
same_map f g a (suc n) h =
    let one = h a (omega arith) (omega arith) in
    let more = same_map f g (a + 1) n (λ k l u. h k (omega arith) (omega arith)) in
    λ i. one i ∷ more i

one_more : {X : Type 0} (b : Bool) (x : X) (xs ys : List X) → length xs ≤ length ys → length (cond b (x ∷ xs) xs) ≤ length (x ∷ ys)
one_more true x xs ys h = omega arith
one_more false x xs ys h = omega arith

-- a filter keeps no more than there is
pub kept_most : {X : Type 0} (test : X → Bool) (xs : List X) → length (filter test xs) ≤ length xs
kept_most test [] = omega arith
kept_most test (x ∷ xs) = one_more (test x) x (filter test xs) xs (kept_most test xs)

-- what holds of all in a list holds of all that a filter keeps of it, and these pass
pub all_kept : {X : Type 0} (test : X → Bool) (P : X → Type 0) (xs : List X) → AllByRecursion P xs → AllByRecursion (λ x. P x × (test x ≡ true)) (filter test xs)
all_kept test P [] h = tt
all_kept test P (x ∷ xs) h =
    let more = all_kept test P xs h.1 in
    cond_both (test x) (x ∷ filter test xs) (filter test xs) (AllByRecursion (λ y. P y × (test y ≡ true))) (λ e. ((h.0, e), more)) (λ e. more)

some_kept : {X : Type 0} (b : Bool) (x : X) (xs : List X) → (b ≡ true) ⊎ (1 ≤ length xs) → 1 ≤ length (cond b (x ∷ xs) xs)
some_kept true x xs h = omega arith
some_kept false x xs (inl e) = absurd (both_ways false refl e)
some_kept false x xs (inr h) = h

-- a filter keeps something of n numbers from a on where one of them passes
pub kept_least : (test : ℕ → Bool) (a n k : ℕ) → a ≤ k → k < a + n → test k ≡ true → 1 ≤ length (filter test (range_with_len a n))
kept_least test a zero k l u e = absurd (omega arith)
kept_least test a (suc n) k l u e =
    some_kept (test a) a (filter test (range_with_len (a + 1) n))
    (⊎_elim (λ same. inl (ap test same ∙ e)) (λ other. inr (kept_least test (a + 1) n k (omega arith) (omega arith) e)) (cases_eq a k))

-- two functions along one list
pub each_map : (R : ℕ → ℕ → Type 0) (f g : ℕ → ℕ) (ks : List ℕ) → AllByRecursion (λ k. R (f k) (g k)) ks → AllZip R (map f ks) (map g ks)
each_map R f g [] h = tt
each_map R f g (k ∷ ks) h = (h.0, each_map R f g ks h.1)
