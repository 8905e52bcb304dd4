-- The majority header is that of voters who agree, and of voters alone.
-- Assumes nothing.
use Rattle.std.proofs.Common.{◌≡◌, ℕ, ◌+◌, ◌*◌, ◌/◌, ◌%◌, ◌^◌, ◌<◌, Bool, true, false, cond, ◌&&◌, eqb, ltb, List, [], ◌∷◌, sym, refl, ap, ◌∙◌, ap₂, arith}
use mathlib.Core.Path.{fun_ext}
use Rattle.std.proofs.ByRecursion.{All-weaker}
use Rattle.std.proofs.lemmas.Bool.{lt-ltb, le-ltb, eqb-true, eqb-false, both_ways}
use Rattle.std.specs.List.{AllZip, AllByRecursion}
use Rattle.terms.specs.declared.pair.Side.{Side}
use Rattle.terms.specs.declared.pair.Side.TheVariants.{Left, Right}
use Rattle.terms.specs.Terms.{part}
use Rattle.synch.specs.declared.bit.Bit.{Bit}
use Rattle.synch.specs.declared.chips.Question.{Question}
use Rattle.synch.specs.declared.chips.Question.TheVariants.{InStep, HeaderBit}
use Rattle.synch.specs.declared.standing.Standing.{Standing}
use Rattle.synch.specs.Packed.{packed}
use Rattle.synch.specs.Vote.{votes, bit_of, holds, one_if, yes_of, count, header_bit, bits}
use Rattle.synch.specs.Laws.{Agree, AgreedHeader, SameVotes, OnlyVotersCount}

-- a chip that answers as it votes, if it votes and the other test agrees
both_equal : (v w t u : Bool) → v ≡ w → (v ≡ true → t ≡ u) → (v && t) ≡ (w && u)
both_equal true true t u e h = h refl
both_equal true false t u e h = absurd (both_ways true e refl)
both_equal false true t u e h = absurd (both_ways false refl e)
both_equal false false t u e h = refl

-- ---- voters who agree

-- how many of a chip's votes are left by a test that is the same for all voters
kept : (t a b : Bool) → one_if (a && t) + one_if (b && t) ≡ cond t (one_if a + one_if b) 0
kept true true true = refl
kept true true false = refl
kept true false true = refl
kept true false false = refl
kept false true true = refl
kept false true false = refl
kept false false true = refl
kept false false false = refl

count_kept : (q : Question) (t : Bool) (xs : List Standing) → AllByRecursion (λ x. (side : Side) → holds q x side ≡ (votes x side && t)) xs
    → count q xs ≡ cond t (count InStep xs) 0
count_kept q true [] h = refl
count_kept q false [] h = refl
count_kept q t (x ∷ xs) h =
    ap₂ (λ (a b : ℕ). a + b)
    (ap₂ (λ (a b : Bool). one_if a + one_if b) (h.0 Left) (h.0 Right) ∙ kept t (votes x Left) (votes x Right))
    (count_kept q t xs h.1)
    ∙ join t (yes_of InStep x) (count InStep xs)
  where
    join : (t : Bool) (m n : ℕ) → cond t m 0 + cond t n 0 ≡ cond t (m + n) 0
    join true m n = refl
    join false m n = refl

-- all voters, or none, are more than half where there is one
all_or_none : (t : Bool) (n : ℕ) → 0 < n → ltb n (2 * cond t n 0) ≡ t
all_or_none true n h = lt-ltb n (2 * n) (omega arith)
all_or_none false n h = le-ltb n (2 * 0) (omega arith)

bit_test : (n : ℕ) → one_if (eqb (n % 2) 1) ≡ n % 2
bit_test n = at (eqb (n % 2) 1) refl
  where
    at : (t : Bool) → eqb (n % 2) 1 ≡ t → one_if t ≡ n % 2
    at true q = sym (eqb-true (n % 2) 1 q)
    at false q = omega (arith, eqb-false (n % 2) 1 q)

agreed_bit : (xs : List Standing) (h : ℕ) (b : Bit) → Agree h xs → 0 < count InStep xs → header_bit xs b ≡ bit_of b.place h
agreed_bit xs h b agree some =
    let t : Bool = eqb (bit_of b.place h) 1 in
    ap (λ (n : ℕ). one_if (ltb (count InStep xs) (2 * n))) (count_kept (HeaderBit b) t xs each)
    ∙ ap one_if (all_or_none t (count InStep xs) some)
    ∙ bit_test (h / 2 ^ b.place)
  where
    each : AllByRecursion (λ x. (side : Side) → holds (HeaderBit b) x side ≡ (votes x side && eqb (bit_of b.place h) 1)) xs
    each =
        All-weaker (λ (x : Standing). (side : Side) → votes x side ≡ true → part x.header.bytes side ≡ h)
        (λ (x : Standing). (side : Side) → holds (HeaderBit b) x side ≡ (votes x side && eqb (bit_of b.place h) 1))
        (λ x k side.
        both_equal (votes x side) (votes x side) (eqb (bit_of b.place (part x.header.bytes side)) 1) (eqb (bit_of b.place h) 1) refl
        (λ v. ap (λ (n : ℕ). eqb (bit_of b.place n) 1) (k side v)))
        xs agree

-- a byte is made of its bits
byte_of_bits : (h : ℕ) → h < 256 → packed 2 (λ b. bit_of b.place h) bits ≡ h
byte_of_bits h k = omega arith

pub agreed_header : AgreedHeader
agreed_header xs h k agree some =
    ap (λ (f : Bit → ℕ). packed 2 f bits) (fun_ext (λ b. agreed_bit xs h b agree some)) ∙ byte_of_bits h k

-- ---- voters alone

same_answer : (b : Bit) (x y : Standing) → SameVotes x y → (side : Side) → holds (HeaderBit b) x side ≡ holds (HeaderBit b) y side
same_answer b x y s side =
    both_equal (votes x side) (votes y side) (eqb (bit_of b.place (part x.header.bytes side)) 1) (eqb (bit_of b.place (part y.header.bytes side)) 1)
    (s side).0 (λ v. ap (λ (n : ℕ). eqb (bit_of b.place n) 1) ((s side).1 v))

same_count : (q : Question) → ((x y : Standing) → SameVotes x y → (side : Side) → holds q x side ≡ holds q y side)
    → (xs ys : List Standing) → AllZip SameVotes xs ys → count q xs ≡ count q ys
same_count q h [] [] s = refl
same_count q h [] (y ∷ ys) s = absurd s
same_count q h (x ∷ xs) [] s = absurd s
same_count q h (x ∷ xs) (y ∷ ys) s =
    ap₂ (λ (a b : ℕ). a + b)
    (ap₂ (λ (a b : Bool). one_if a + one_if b) (h x y s.0 Left) (h x y s.0 Right))
    (same_count q h xs ys s.1)

pub only_voters_count : OnlyVotersCount
only_voters_count xs ys s =
    ap (λ (f : Bit → ℕ). packed 2 f bits) (fun_ext (λ b.
    ap₂ (λ (m n : ℕ). one_if (ltb m (2 * n)))
    (same_count InStep (λ x y k side. (k side).0) xs ys s)
    (same_count (HeaderBit b) (same_answer b) xs ys s)))
