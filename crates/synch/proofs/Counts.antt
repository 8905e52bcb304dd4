-- The ones of a word of chips are the chips that answer yes.
-- Assumes nothing.
use Rattle.std.proofs.Common.{◌≡◌, ℕ, zero, suc, ◌+◌, ◌-◌, ◌*◌, ◌<◌, ◌≤◌, Bool, true, false, ltb, List, [], ◌∷◌, Bor, length, get_or, drop, sym, refl, ap, ◌∙◌, subst, ap₂, add_comm, arith}
use native.Mathlib.Bridge.{le_prop}
use mir.Val.{bool_byte}
use lib.Count.{ones, ones_cat}
use Rattle.terms.specs.declared.pair.Side.TheVariants.{Left, Right}
use Rattle.synch.specs.declared.bit.Bit.{Bit}
use Rattle.synch.specs.declared.chips.Question.{Question}
use Rattle.synch.specs.declared.chips.Question.TheVariants.{InStep, HeaderBit}
use Rattle.synch.specs.declared.standing.Standing.{Standing}
use Rattle.synch.specs.Packed.{packed}
use Rattle.synch.specs.Vote.{holds, one_if, yes_of, count, chip_bits, chip_word, more_than_half, header_bit, bits}
use Rattle.synch.proofs.Packed.{packed_again, packed_room, so_far, so_far_lt}

bits_lt : (a b : Bool) → one_if a + 2 * one_if b < 4
bits_lt true true = omega arith
bits_lt true false = omega arith
bits_lt false true = omega arith
bits_lt false false = omega arith

bits_ones : (a b : Bool) → ones (one_if a + 2 * one_if b) ≡ one_if a + one_if b
unfolding ones
bits_ones true true = refl
bits_ones true false = refl
bits_ones false true = refl
bits_ones false false = refl

pub chip_bits_lt : (q : Question) (x : Standing) → chip_bits q x < 4
chip_bits_lt q x = bits_lt (holds q x Left) (holds q x Right)

pub ones_count : (q : Question) (xs : List Standing) → ones (chip_word q xs) ≡ count q xs
unfolding ones
ones_count q [] = refl
ones_count q (x ∷ xs) =
    ones_cat 2 (chip_word q xs) (chip_bits q x) (chip_bits_lt q x)
    ∙ ap₂ (λ (a b : ℕ). a + b) (ones_count q xs) (bits_ones (holds q x Left) (holds q x Right))
    ∙ add_comm (count q xs) (yes_of q x)

-- eleven fibres leave room for the twelfth in 24 bits
pub word_room : (q : Question) (ys : List (Bor Standing)) (v : ℕ) → length ys ≤ 11 → v ≡ so_far 4 (chip_bits q) ys → v < 4194304
word_room q ys v h p = so_far_lt 4 (chip_bits q) (omega arith) (chip_bits_lt q) 11 ys v h p

-- ---- a byte, bit by bit

-- a bit is known by its place
same_bit : (a b : Bit) → a.place ≡ b.place → a ≡ b
same_bit a b e =
    subst (λ (m : ℕ). (g : m < 8) → a ≡ record { place = m; below = g }) e
    (λ g i. record { place = a.place; below = le_prop a.below g i }) b.below

bit_there : (n : ℕ) (b : Bit) → b.place ≡ n → n < 8 → get_or bits n b ≡ b
bit_there zero b e h = same_bit _ b (sym e)
bit_there (suc zero) b e h = same_bit _ b (sym e)
bit_there (suc (suc zero)) b e h = same_bit _ b (sym e)
bit_there (suc (suc (suc zero))) b e h = same_bit _ b (sym e)
bit_there (suc (suc (suc (suc zero)))) b e h = same_bit _ b (sym e)
bit_there (suc (suc (suc (suc (suc zero))))) b e h = same_bit _ b (sym e)
bit_there (suc (suc (suc (suc (suc (suc zero)))))) b e h = same_bit _ b (sym e)
bit_there (suc (suc (suc (suc (suc (suc (suc zero))))))) b e h = same_bit _ b (sym e)
bit_there (suc (suc (suc (suc (suc (suc (suc (suc n)))))))) b e h = absurd (omega arith)

header_bit_lt : (xs : List Standing) (b : Bit) → header_bit xs b < 2
header_bit_lt xs b = at (ltb (count InStep xs) (2 * count (HeaderBit b) xs))
  where
    at : (t : Bool) → one_if t < 2
    at true = omega arith
    at false = omega arith

pub bool_byte-one_if : (t : Bool) → bool_byte t ≡ one_if t
bool_byte-one_if true = refl
bool_byte-one_if false = refl

pub one_if_le : (t : Bool) → one_if t ≤ 1
one_if_le true = omega arith
one_if_le false = omega arith

pub byte_room : (xs : List Standing) (b v : ℕ) → 0 < b → v ≡ packed 2 (header_bit xs) (drop b bits) → v < 128
byte_room xs b v h p = packed_room 2 (header_bit xs) (omega arith) (header_bit_lt xs) 7 bits b v (omega arith) h p

-- one more bit of the header, from the words that were counted
pub byte_again : (xs : List Standing) (bit : Bit) (b v word voters t : ℕ) → 0 < b → b ≤ 8 → bit.place ≡ b - 1
    → v ≡ packed 2 (header_bit xs) (drop b bits) → ones word ≡ count (HeaderBit bit) xs → ones voters ≡ count InStep xs
    → t ≡ one_if (more_than_half word voters) → 2 * v + t ≡ packed 2 (header_bit xs) (drop (b - 1) bits)
byte_again xs bit b v word voters t h k at p w r q =
    packed_again 2 (header_bit xs) bits b v t bit h (omega arith) p
    (q ∙ ap one_if (ap₂ (λ (m n : ℕ). ltb m (2 * n)) r w) ∙ ap (header_bit xs) (sym (bit_there (b - 1) bit at (omega arith))))
