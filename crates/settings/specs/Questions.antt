-- The questions that a setting word is asked, in their order.
-- Assumes nothing.
use Rattle.std.specs.Prelude.{ℕ, ◌-◌, Bool, true, false, not, ◌&&◌, ◌||◌, List, [], ◌∷◌, Some, None, Option, ◌==◌, nat_le, nat_lt, slice_index_or}
use Rattle.terms.specs.declared.refusal.Refusal.{Refusal}
use Rattle.terms.specs.declared.refusal.Refusal.TheVariants.{UnknownSetting, NoSuchFibre, UnusedBits, UnknownMode, ThresholdOrder}
use Rattle.settings.specs.Fields.{bits, kind, fibre_field, mode_field, thresh1_field, thresh2_field}
use Rattle.settings.specs.Order.{in_order}

-- is its kind 1 to 5?
abbrev pub kind_known : ℕ → Bool
kind_known word = nat_le 1 (kind word) && nat_le (kind word) 5

-- is its fibre, if its kind has one, 0 to 11?
abbrev pub fibre_known : ℕ → Bool
fibre_known word = kind word == 1 || nat_lt (fibre_field word) 12

-- the bits that kinds 1 to 5 leave unused, as ranges, each from its highest bit down to its lowest
abbrev pub unused : List (List (ℕ × ℕ))
unused = ((27, 5) ∷ []) ∷ ((23, 8) ∷ []) ∷ ((15, 11) ∷ []) ∷ [] ∷ ((23, 17) ∷ (15, 8) ∷ []) ∷ []

-- are all bits of some ranges zero?
abbrev pub all_zero : List (ℕ × ℕ) → ℕ → Bool
all_zero [] word = true
all_zero (range ∷ more) word = bits range.0 range.1 word == 0 && all_zero more word

-- are the bits that its kind leaves unused zero?
abbrev pub unused_zero : ℕ → Bool
unused_zero word = all_zero (slice_index_or unused (kind word - 1) []) word

-- is the mode of a word of kind 1 one of 6, 10 and 18?
abbrev pub mode_known : ℕ → Bool
mode_known word = not (kind word == 1) || (mode_field word == 6 || (mode_field word == 10 || mode_field word == 18))

-- are the thresholds of a word of kind 4 in order?
abbrev pub thresholds_ordered : ℕ → Bool
thresholds_ordered word = not (kind word == 4) || in_order (thresh1_field word) (thresh2_field word)

-- the refusal of the first question that is answered no
abbrev pub first_no : List (Bool × Refusal) → Option Refusal
first_no [] = None
first_no (question ∷ more) = elim question.0 [ true ↦ first_no more | false ↦ Some question.1 ]

-- what a setting word is refused with, if it is
unfoldable pub refusal : ℕ → Option Refusal
refusal word =
    first_no
    ((kind_known word, UnknownSetting)
    ∷ (fibre_known word, NoSuchFibre)
    ∷ (unused_zero word, UnusedBits)
    ∷ (mode_known word, UnknownMode)
    ∷ (thresholds_ordered word, ThresholdOrder)
    ∷ [])
