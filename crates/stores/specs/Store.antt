-- What a store means: twelve lists of waiting bytes, oldest first, and one capacity.
-- Assumes nothing.
use Rattle.std.specs.Prelude.{◌≡◌, ℕ, ◌+◌, ◌*◌, ◌/◌, ◌<◌, ◌≤◌, min, cond, List, [], ◌++◌, length, drop, replicate, Ok, Err, Result, nat_le, nat_lt, slice_index, slice_index_or, slice_set}
use Rattle.std.proofs.Common.{arith}
use Rattle.std.specs.List.{AllByRecursion}
use Rattle.terms.specs.declared.refusal.Refusal.{Refusal}
use Rattle.terms.specs.declared.refusal.Refusal.TheVariants.{NoSuchFibre, StoreFull, StoreEmpty}

-- what waits on a fibre, oldest first
abbrev pub waiting : List (List ℕ) → ℕ → List ℕ
waiting lists f = slice_index_or lists f []

-- how many bytes wait on a fibre
abbrev pub level_of : List (List ℕ) → ℕ → ℕ
level_of lists f = length (waiting lists f)

-- the byte that waits longest on a fibre
abbrev pub oldest : List (List ℕ) → ℕ → ℕ
oldest lists f = slice_index (waiting lists f) 0

-- the lists with bytes put behind those that wait on a fibre
abbrev pub appended : List (List ℕ) → ℕ → List ℕ → List (List ℕ)
appended lists f bytes = slice_set lists f (waiting lists f ++ bytes)

-- the lists without the n oldest bytes of a fibre
abbrev pub without : List (List ℕ) → ℕ → ℕ → List (List ℕ)
without lists f n = slice_set lists f (drop n (waiting lists f))

-- twelve lists in which nothing waits
abbrev pub empty_lists : List (List ℕ)
empty_lists = replicate 12 []

-- the largest capacity
abbrev pub largest : ℕ
largest = 2048

-- how many of n lent bytes, and of the bytes of n lent words of four, each fibre has: a twelfth of them
abbrev pub byte_share : ℕ → ℕ
byte_share n = n / 12

abbrev pub word_share : ℕ → ℕ
word_share n = 4 * (n / 12)

-- the capacity over n lent bytes, and over n lent words
abbrev pub byte_capacity : ℕ → ℕ
byte_capacity n = min (byte_share n) largest

abbrev pub word_capacity : ℕ → ℕ
word_capacity n = min (word_share n) largest

-- twelve shares are no more than there is
pub byte_share_enough : (n : ℕ) → 12 * byte_share n ≤ n
byte_share_enough n = omega arith

pub word_share_enough : (n : ℕ) → 12 * word_share n ≤ 4 * n
word_share_enough n = omega arith

-- a list of bytes
abbrev pub Bytes : List ℕ → Type 0
Bytes xs = AllByRecursion (λ b. b < 256) xs

-- what holds of every store: there are twelve lists, none longer than the capacity, the capacity is at most 2,048, and all that waits are bytes
pub record Sound (room : ℕ) (lists : List (List ℕ)) : Type 0 where
  pub twelve : length lists ≡ 12
  pub within : (f : ℕ) → level_of lists f ≤ room
  pub limit : room ≤ largest
  pub bytes : (f : ℕ) → Bytes (waiting lists f)

-- the question about a fibre's number: is it below 12? Else 3
abbrev pub fibre_question : {A : Type 0} → ℕ → Result A Refusal → Result A Refusal
fibre_question f next = cond (nat_lt f 12) next (Err NoSuchFibre)

-- the questions about n bytes that are put where some wait: the fibre? 3. Do all fit the capacity? 12
abbrev pub put_questions : ℕ → ℕ → ℕ → ℕ → Result (Unit {0}) Refusal
put_questions room level f n = fibre_question f (cond (nat_le (level + n) room) (Ok tt) (Err StoreFull))

-- the questions about n bytes that are taken where some wait: the fibre? 3. Do so many wait? 13
abbrev pub take_questions : ℕ → ℕ → ℕ → Result (Unit {0}) Refusal
take_questions level f n = fibre_question f (cond (nat_le n level) (Ok tt) (Err StoreEmpty))

-- the answer to a call about which all questions were answered yes, else the refusal
abbrev pub answering : {A : Type 0} → Result (Unit {0}) Refusal → A → Result A Refusal
answering (Ok x) a = Ok a
answering (Err e) a = Err e
