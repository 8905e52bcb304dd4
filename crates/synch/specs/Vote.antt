-- What twelve fibres say together: an event, and a header.
-- Assumes nothing.
use Rattle.std.specs.Prelude.{ℕ, ◌+◌, ◌*◌, ◌/◌, ◌%◌, ◌^◌, Bool, cond, ◌&&◌, List, [], ◌∷◌, ◌==◌, count_ones, nat_lt}
use Rattle.std.proofs.Common.{lit<}
use Rattle.terms.specs.declared.pair.Side.{Side}
use Rattle.terms.specs.declared.pair.Side.TheVariants.{Left, Right}
use Rattle.terms.specs.Terms.{enabled, part}
use Rattle.synch.specs.declared.bit.Bit.{Bit}
use Rattle.synch.specs.declared.chips.Question.{Question}
use Rattle.synch.specs.declared.chips.Question.TheVariants.{InLock, InStep, HeaderBit}
use Rattle.synch.specs.declared.standing.Standing.{Standing}
use Rattle.synch.specs.Packed.{packed}

-- a fibre's chip votes if the fibre is in step and the chip enabled
abbrev pub votes : Standing → Side → Bool
votes x side = x.in_step && enabled x.enable side

-- bit b of a byte
abbrev pub bit_of : ℕ → ℕ → ℕ
bit_of b n = n / 2 ^ b % 2

-- what a chip answers to a question
abbrev pub holds : Question → Standing → Side → Bool
holds InLock x side = x.in_lock && enabled x.enable side
holds InStep x side = votes x side
holds (HeaderBit b) x side = votes x side && bit_of b.place (part x.header.bytes side) == 1

-- a yes as the number 1
abbrev pub one_if : Bool → ℕ
one_if b = cond b 1 0

-- how many chips of a fibre answer yes, and of a list of fibres
abbrev pub yes_of : Question → Standing → ℕ
yes_of q x = one_if (holds q x Left) + one_if (holds q x Right)

abbrev pub count : Question → List Standing → ℕ
count q [] = 0
count q (x ∷ xs) = yes_of q x + count q xs

-- the chips that answer yes as a word: two bits to a fibre, its left chip's below its right chip's
abbrev pub chip_bits : Question → Standing → ℕ
chip_bits q x = one_if (holds q x Left) + 2 * one_if (holds q x Right)

abbrev pub chip_word : Question → List Standing → ℕ
chip_word q xs = packed 4 (chip_bits q) xs

-- a vote word's ones are more than half of those of the voters' word
abbrev pub more_than_half : ℕ → ℕ → Bool
more_than_half word voters = nat_lt (count_ones voters) (2 * count_ones word)

-- an event begins if twice the enabled chips on pulsing fibres exceeds the enabled chips on fibres in lock
abbrev pub event : List Standing → Bool
event xs = nat_lt (count InLock xs) (2 * count InStep xs)

-- a bit of the header is 1 if twice the voting chips that bring a 1 exceeds the voting chips
abbrev pub header_bit : List Standing → Bit → ℕ
header_bit xs b = one_if (nat_lt (count InStep xs) (2 * count (HeaderBit b) xs))

-- the bits of a byte, lowest first
abbrev pub bits : List Bit
bits =
    record { place = 0; below = lit< tt }
    ∷ record { place = 1; below = lit< tt }
    ∷ record { place = 2; below = lit< tt }
    ∷ record { place = 3; below = lit< tt }
    ∷ record { place = 4; below = lit< tt }
    ∷ record { place = 5; below = lit< tt }
    ∷ record { place = 6; below = lit< tt }
    ∷ record { place = 7; below = lit< tt }
    ∷ []

-- the header that the chips in step vote for
abbrev pub majority_header : List Standing → ℕ
majority_header xs = packed 2 (header_bit xs) bits
