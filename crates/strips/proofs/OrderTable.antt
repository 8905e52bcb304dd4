-- The order of the strips is one to one: one test at each of 256 numbers, which antt computes.
-- Assumes nothing.
use Rattle.std.proofs.Common.{◌≡◌, ℕ, zero, suc, ◌+◌, ◌<◌, Bool, true, ◌&&◌, eqb, ltb, List, [], ◌∷◌, refl, add-zero, zero-add, arith}
use Rattle.std.specs.List.{range_with_len}
use Rattle.std.proofs.lemmas.Bool.{and_parts, eqb-true, ltb-true}
use Rattle.strips.specs.Order.{strip_at, place_of, OneToOne}

-- a test passes at each number of a list
abbrev everywhere : (ℕ → Bool) → List ℕ → Bool
everywhere test [] = true
everywhere test (x ∷ xs) = test x && everywhere test xs

-- what passes at n numbers from a on passes at each of them
somewhere : (test : ℕ → Bool) (a n k : ℕ) → everywhere test (range_with_len a n) ≡ true → k < n → test (a + k) ≡ true
somewhere test a zero k e h = absurd (omega arith)
somewhere test a (suc n) zero e h = rw add-zero (and_parts (test a) (everywhere test (range_with_len (a + 1) n)) e).0
somewhere test a (suc n) (suc k) e h =
    let rest = somewhere test (a + 1) n k (and_parts (test a) (everywhere test (range_with_len (a + 1) n)) e).1 (omega arith) in
    let same : a + 1 + k ≡ a + suc k = omega arith in
    rw same at rest

-- a number as a place and as a strip: its strip and its place are below 256, and the way there and back ends at it
abbrev fine : ℕ → Bool
fine k =
    (ltb (strip_at k) 256 && ltb (place_of k) 256) && (eqb (place_of (strip_at k)) k && eqb (strip_at (place_of k)) k)

all_fine : everywhere fine (range_with_len 0 256) ≡ true
all_fine = refl

fine_at : (k : ℕ) → k < 256 → fine k ≡ true
fine_at k h = rw zero-add at (somewhere fine 0 256 k all_fine h)

bounds : (k : ℕ) → k < 256 → (ltb (strip_at k) 256 && ltb (place_of k) 256) ≡ true
bounds k h =
    (and_parts (ltb (strip_at k) 256 && ltb (place_of k) 256) (eqb (place_of (strip_at k)) k && eqb (strip_at (place_of k)) k)
    (fine_at k h)).0

ways : (k : ℕ) → k < 256 → (eqb (place_of (strip_at k)) k && eqb (strip_at (place_of k)) k) ≡ true
ways k h =
    (and_parts (ltb (strip_at k) 256 && ltb (place_of k) 256) (eqb (place_of (strip_at k)) k && eqb (strip_at (place_of k)) k)
    (fine_at k h)).1

pub one_to_one : OneToOne
one_to_one =
    record {
      strip_below = λ k h. ltb-true (strip_at k) 256 (and_parts (ltb (strip_at k) 256) (ltb (place_of k) 256) (bounds k h)).0;
      place_below = λ s h. ltb-true (place_of s) 256 (and_parts (ltb (strip_at s) 256) (ltb (place_of s) 256) (bounds s h)).1;
      there_and_back = λ k h. eqb-true (place_of (strip_at k)) k (and_parts (eqb (place_of (strip_at k)) k) (eqb (strip_at (place_of k)) k) (ways k h)).0;
      back_and_there = λ s h. eqb-true (strip_at (place_of s)) s (and_parts (eqb (place_of (strip_at s)) s) (eqb (strip_at (place_of s)) s) (ways s h)).1;
    }
