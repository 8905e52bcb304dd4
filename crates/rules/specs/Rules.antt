-- What the common-mode rules mean: rank, mean and fixed, and the shift law.
-- Assumes nothing.
use Rattle.std.specs.Prelude.{◌≡◌, ℕ, ◌+◌, ◌/◌, ◌<◌, ◌≤◌, min, max, Bool, cond, ◌&&◌, List, [], ◌∷◌, length, ℤ, pos, ◌+ℤ◌, sum, count_by, nat_le, nat_lt, slice_index}
use Rattle.std.specs.List.{AllZip, ContainsAt, AllByRecursion}

-- a rule's meaning: a number for a chip, a rank setting and a list of values
abbrev pub Meaning : Type 0
Meaning = ℕ → ℕ → List ℕ → ℕ

-- what a rule can be asked about: a chip 0 to 23 and 1 to 128 values up to 1023
pub record InRange (chip : ℕ) (vs : List ℕ) : Type 0 where
  pub of_card : chip < 24
  pub some : 1 ≤ length vs
  pub of_chip : length vs ≤ 128
  pub ten_bits : AllByRecursion (λ v. v ≤ 1023) vs

-- how many values lie below x
abbrev pub below : ℕ → List ℕ → ℕ
below x vs = count_by (λ v. nat_lt v x) vs

-- how many values lie at or below x
abbrev pub at_or_below : ℕ → List ℕ → ℕ
at_or_below x vs = count_by (λ v. nat_le v x) vs

-- x has position p among the values: fewer than p of them lie below it, and at least p at or below it
pub record HasPosition (p x : ℕ) (vs : List ℕ) : Type 0 where
  pub fewer : below x vs < p
  pub enough : p ≤ at_or_below x vs

-- the same as a test
abbrev pub has_it : ℕ → List ℕ → ℕ → Bool
has_it p vs x = nat_lt (below x vs) p && nat_le p (at_or_below x vs)

-- the first value that passes a test; 0 where none does
abbrev pub first_such : (ℕ → Bool) → List ℕ → ℕ
first_such test [] = 0
first_such test (v ∷ vs) = cond (test v) v (first_such test vs)

-- the value that has position p
abbrev pub value_at : ℕ → List ℕ → ℕ
value_at p vs = first_such (has_it p vs) vs

-- the position that a rank setting asks for in a list of n values: at least 1, at most n
abbrev pub rank_position : ℕ → ℕ → ℕ
rank_position setting n = min (max ((setting + 1) / 2) 1) n

-- the rank rule: the value at the position that the setting asks for
abbrev pub rank : Meaning
rank chip setting vs = value_at (rank_position setting (length vs)) vs

-- the mean rule: the sum divided by the length, rounded down
abbrev pub mean : Meaning
mean chip setting vs = sum vs / length vs

-- the fixed rule: the chip's number, one above 1023 as 1023
abbrev pub fixed : List ℕ → Meaning
fixed numbers chip setting vs = min (slice_index numbers chip) 1023

-- ws is vs with c added to each value
abbrev pub Shifted : ℤ → List ℕ → List ℕ → Type 0
Shifted c vs ws = AllZip (λ v w. pos w ≡ pos v +ℤ c) vs ws

-- the shift law: where all values lie in 0 to 1022 and do so with c added to each, the answer has c added too
abbrev pub ShiftLaw : Meaning → Type 0
ShiftLaw meaning =
    (chip setting : ℕ) (vs ws : List ℕ) (c : ℤ) → chip < 24 → setting < 256 → 1 ≤ length vs → length vs ≤ 128
    → AllByRecursion (λ v. v ≤ 1022) vs → AllByRecursion (λ w. w ≤ 1022) ws → Shifted c vs ws
    → pos (meaning chip setting ws) ≡ pos (meaning chip setting vs) +ℤ c

-- the rank rule in the subject's words: its answer has the position, no other number has it, and it is one of the values
pub record RankLaws : Type 0 where
  pub answer_has_it : (chip setting : ℕ) (vs : List ℕ) → InRange chip vs → HasPosition (rank_position setting (length vs)) (rank chip setting vs) vs
  pub no_other : (chip setting x : ℕ) (vs : List ℕ) → InRange chip vs → HasPosition (rank_position setting (length vs)) x vs → x ≡ rank chip setting vs
  pub one_of_them : (chip setting : ℕ) (vs : List ℕ) → InRange chip vs → ContainsAt vs (rank chip setting vs)

-- a rule's answer lies between the lowest and the highest value
abbrev pub StaysBetween : Meaning → Type 0
StaysBetween meaning =
    (chip setting low high : ℕ) (vs : List ℕ) → InRange chip vs → AllByRecursion (λ v. low ≤ v) vs → AllByRecursion (λ v. v ≤ high) vs
    → (low ≤ meaning chip setting vs) × (meaning chip setting vs ≤ high)

-- whatever the 24 numbers, the fixed rule lacks the shift law, and so does any rule that does not look at the values
abbrev pub FixedLacksLaw : Type 0
FixedLacksLaw =
    ((numbers : List ℕ) → ShiftLaw (fixed numbers) → ⊥)
    × ((answer : ℕ → ℕ → ℕ) → ShiftLaw (λ chip setting vs. answer chip setting) → ⊥)

-- the four values of the worked examples
abbrev pub four : List ℕ
four = 10 ∷ 10 ∷ 20 ∷ 30 ∷ []

-- of 10, 10, 20, 30 the rank at settings 4, 6 and 255 is 10, 20 and 30, and the mean is 17
abbrev pub WorkedExamples : Type 0
WorkedExamples =
    (chip setting : ℕ) → (rank chip 4 four ≡ 10) × (rank chip 6 four ≡ 20) × (rank chip 255 four ≡ 30) × (mean chip setting four ≡ 17)
