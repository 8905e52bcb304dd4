-- Limits of numbers: the test of a list, element by element.
use Rattle.std.specs.Prelude.{◌≡◌, ℕ, suc, max, ◌+◌, ◌<◌, ◌≤◌, Bool, true, false, ◌&&◌, List, [], ◌∷◌, ◌++◌, length, take, nat_le, slice_index, refl}
use Rattle.std.proofs.Common.{sym, ap, ◌∙◌, arith}
use Rattle.std.specs.List.{AllByRecursion, fold}
use Rattle.std.proofs.lemmas.List.{take_more}
use Rattle.std.proofs.lemmas.Bool.{and_parts, and_from, leb-true, le-leb}
use Rattle.std.proofs.lemmas.Bool.Decides.{nat_tests}
use Rattle.layout.specs.Limits.{at_most}

pub at_most_all : (limit : ℕ) (xs : List ℕ) → at_most limit xs ≡ true → AllByRecursion (λ x. x ≤ limit) xs
at_most_all limit [] e = tt
at_most_all limit (x ∷ xs) e =
    let h = and_parts (nat_le x limit) (at_most limit xs) e in
    (leb-true x limit h.0, at_most_all limit xs h.1)

pub at_most_from : (limit : ℕ) (xs : List ℕ) → ((k : ℕ) → slice_index xs k ≤ limit) → at_most limit xs ≡ true
at_most_from limit [] h = refl
at_most_from limit (x ∷ xs) h =
    and_from (nat_le x limit) (at_most limit xs) (le-leb x limit (h 0)) (at_most_from limit xs (λ k. h (suc k)))

-- the largest of numbers tells of them all
max_within : (limit a x : ℕ) → nat_le (max a x) limit ≡ (nat_le a limit && nat_le x limit)
max_within limit a x = grind (arith, nat_tests)

largest_tells : (limit a : ℕ) (xs : List ℕ) → nat_le (fold max a xs) limit ≡ (nat_le a limit && at_most limit xs)
largest_tells limit a [] = with_true (nat_le a limit)
  where
    with_true : (b : Bool) → b ≡ (b && true)
    with_true true = refl
    with_true false = refl
largest_tells limit a (x ∷ xs) =
    largest_tells limit (max a x) xs
    ∙ ap (λ b. b && at_most limit xs) (max_within limit a x)
    ∙ regroup (nat_le a limit) (nat_le x limit) (at_most limit xs)
  where
    regroup : (a b c : Bool) → ((a && b) && c) ≡ (a && (b && c))
    regroup true b c = refl
    regroup false b c = refl

tells : (limit : ℕ) (xs : List ℕ) → nat_le (fold max 0 xs) limit ≡ at_most limit xs
tells limit xs = largest_tells limit 0 xs ∙ ap (λ b. b && at_most limit xs) (le-leb 0 limit (omega arith))

above : (limit m : ℕ) → limit < m → nat_le m limit ≡ false
above limit m h = grind (arith, nat_tests)

pub none_above : (limit : ℕ) (xs : List ℕ) → fold max 0 xs ≤ limit → at_most limit xs ≡ true
none_above limit xs h = sym (tells limit xs) ∙ le-leb (fold max 0 xs) limit h

pub some_above : (limit : ℕ) (xs : List ℕ) → limit < fold max 0 xs → at_most limit xs ≡ false
some_above limit xs h = sym (tells limit xs) ∙ above limit (fold max 0 xs) h

-- one number more, and the largest of the first ones
at_most_push : (limit : ℕ) (xs : List ℕ) (x : ℕ) → at_most limit (xs ++ x ∷ []) ≡ (at_most limit xs && nat_le x limit)
at_most_push limit [] x = regroup (nat_le x limit)
  where
    regroup : (b : Bool) → (b && true) ≡ b
    regroup true = refl
    regroup false = refl
at_most_push limit (y ∷ xs) x =
    ap (λ b. nat_le y limit && b) (at_most_push limit xs x) ∙ regroup (nat_le y limit) (at_most limit xs) (nat_le x limit)
  where
    regroup : (a b c : Bool) → (a && (b && c)) ≡ (a && b && c)
    regroup true b c = refl
    regroup false b c = refl

-- the largest m of the first i numbers is within a limit where all of them are: with one more number it is m'
pub largest_more :
    (limit : ℕ) (xs : List ℕ) (i m m' : ℕ) →
    i < length xs →
    nat_le m limit ≡ at_most limit (take i xs) →
    nat_le m' limit ≡ (nat_le m limit && nat_le (slice_index xs i) limit) →
    nat_le m' limit ≡ at_most limit (take (i + 1) xs)
largest_more limit xs i m m' h e f =
    f
    ∙ ap (λ t. t && nat_le (slice_index xs i) limit) e
    ∙ sym (at_most_push limit (take i xs) (slice_index xs i))
    ∙ sym (ap (at_most limit) (take_more xs i 0 h))

pub larger_of : (limit m x : ℕ) → m < x → nat_le x limit ≡ (nat_le m limit && nat_le x limit)
larger_of limit m x h = grind (arith, nat_tests)

pub no_larger : (limit m x : ℕ) → x ≤ m → nat_le m limit ≡ (nat_le m limit && nat_le x limit)
no_larger limit m x h = grind (arith, nat_tests)
