-- A list of calls of a store: what each answers, and the lists after it, by the lists alone.
-- Assumes nothing.
use Rattle.std.specs.Prelude.{◌≡◌, ℕ, Bool, cond, List, [], ◌∷◌, ◌++◌, length, take, drop, is_ok, Ok, Err, Result, ◌==◌, nat_le}
use Rattle.std.specs.List.{AllByRecursion}
use Rattle.terms.specs.declared.refusal.Refusal.{Refusal}
use Rattle.terms.specs.declared.refusal.Refusal.TheVariants.{BufferTooShort, NoSuchFibre, StoreFull, StoreEmpty}
use Rattle.terms.specs.Terms.{number}
use Rattle.stores.specs.declared.call.StoreCall.{StoreCall}
use Rattle.stores.specs.declared.call.StoreCall.TheVariants.{Put, Take, Level, Capacity, Clear}
use Rattle.stores.specs.declared.call.StoreReply.{StoreReply}
use Rattle.stores.specs.declared.call.StoreReply.TheVariants.{Done, Byte, Count}
use Rattle.stores.specs.Store.{waiting, level_of, oldest, appended, without, empty_lists, fibre_question, put_questions, take_questions, answering, byte_capacity, word_capacity}

-- what a call of a store answers: a reply, or a refusal
abbrev pub StoreAnswer : Type 0
StoreAnswer = Result StoreReply Refusal

-- a result as an answer
abbrev pub as_answer : {A : Type 0} → (A → StoreReply) → Result A Refusal → StoreAnswer
as_answer reply (Ok a) = Ok (reply a)
as_answer reply (Err e) = Err e

-- what a call answers
abbrev pub answer_to : ℕ → List (List ℕ) → StoreCall → StoreAnswer
answer_to room lists (Put f b) = as_answer (λ _. Done) (put_questions room (level_of lists f) f 1)
answer_to room lists (Take f) = as_answer Byte (answering (take_questions (level_of lists f) f 1) (oldest lists f))
answer_to room lists (Level f) = as_answer Count (fibre_question f (Ok (level_of lists f)))
answer_to room lists Capacity = Ok (Count room)
answer_to room lists Clear = Ok Done

-- the lists after a call
abbrev pub lists_after : ℕ → List (List ℕ) → StoreCall → List (List ℕ)
lists_after room lists (Put f b) = cond (is_ok (put_questions room (level_of lists f) f 1)) (appended lists f (b ∷ [])) lists
lists_after room lists (Take f) = cond (is_ok (take_questions (level_of lists f) f 1)) (without lists f 1) lists
lists_after room lists (Level f) = lists
lists_after room lists Capacity = lists
lists_after room lists Clear = empty_lists

-- what each of a list of calls answers
abbrev pub answers_to : ℕ → List (List ℕ) → List StoreCall → List StoreAnswer
answers_to room lists [] = []
answers_to room lists (c ∷ cs) = answer_to room lists c ∷ answers_to room (lists_after room lists c) cs

-- the lists after a list of calls
abbrev pub lists_after_all : ℕ → List (List ℕ) → List StoreCall → List (List ℕ)
lists_after_all room lists [] = lists
lists_after_all room lists (c ∷ cs) = lists_after_all room (lists_after room lists c) cs

-- the question about a row for n answers: is it long enough? 11, with the length that is needed
abbrev pub row_question : ℕ → ℕ → Result (Unit {0}) Refusal
row_question n long = cond (nat_le n long) (Ok tt) (Err (BufferTooShort n))

-- a list of calls was carried out on a store, the answers at the start of a row; or nothing was, and nothing changed
pub record Ran (room : ℕ) (lists : List (List ℕ)) (calls : List StoreCall) (row : List StoreAnswer) (ran : Bool) (room' : ℕ) (lists' : List (List ℕ)) (row' : List StoreAnswer) : Type 0 where
  pub answers : row' ≡ cond ran (answers_to room lists calls ++ drop (length calls) row) row
  pub lists_then : lists' ≡ cond ran (lists_after_all room lists calls) lists
  pub room_then : room' ≡ room

-- two stores gave the same n answers and hold the same lists
pub record Alike (n : ℕ) (row row' : List StoreAnswer) (lists lists' : List (List ℕ)) : Type 0 where
  pub answers : take n row ≡ take n row'
  pub lists_then : lists ≡ lists'

-- the byte that a call put on fibre f, if it was not refused
abbrev pub put_by : ℕ → StoreCall → StoreAnswer → List ℕ
put_by f (Put g b) (Ok Done) = cond (g == f) (b ∷ []) []
put_by f (Put g b) (Ok (Byte x)) = []
put_by f (Put g b) (Ok (Count n)) = []
put_by f (Put g b) (Err e) = []
put_by f (Take g) a = []
put_by f (Level g) a = []
put_by f Capacity a = []
put_by f Clear a = []

-- the byte that a call took from fibre f, if it was not refused
abbrev pub taken_by : ℕ → StoreCall → StoreAnswer → List ℕ
taken_by f (Take g) (Ok Done) = []
taken_by f (Take g) (Ok (Byte x)) = cond (g == f) (x ∷ []) []
taken_by f (Take g) (Ok (Count n)) = []
taken_by f (Take g) (Err e) = []
taken_by f (Put g b) a = []
taken_by f (Level g) a = []
taken_by f Capacity a = []
taken_by f Clear a = []

-- what the calls of a list did by their answers, one after the other
abbrev pub over_all : (StoreCall → StoreAnswer → List ℕ) → List StoreCall → List StoreAnswer → List ℕ
over_all by [] answers = []
over_all by (c ∷ cs) [] = []
over_all by (c ∷ cs) (a ∷ answers) = by c a ++ over_all by cs answers

-- a call other than Clear
abbrev pub Keeps : StoreCall → Type 0
Keeps (Put f b) = Unit {0}
Keeps (Take f) = Unit {0}
Keeps (Level f) = Unit {0}
Keeps Capacity = Unit {0}
Keeps Clear = ⊥

-- first in, first out: as long as nothing is cleared, what waited on a fibre and what was then put on it
-- is what was taken from it and what waits on it now, in that order; no byte is lost, invented or moved
abbrev pub FirstInFirstOut : List (List ℕ) → List StoreCall → List StoreAnswer → List (List ℕ) → Type 0
FirstInFirstOut before calls answers after =
    AllByRecursion Keeps calls → (f : ℕ) → waiting before f ++ over_all (put_by f) calls answers ≡ over_all (taken_by f) calls answers ++ waiting after f

-- worked examples: a store of capacity 2 in which nothing waits answers these calls, and the capacities over some lent memory
abbrev pub WorkedExamples : Type 0
WorkedExamples =
    (answers_to 2 empty_lists
    (Level 4 ∷ Put 4 7 ∷ Put 4 8 ∷ Put 4 9 ∷ Take 4 ∷ Put 4 10 ∷ Level 4 ∷ Take 4 ∷ Take 4 ∷ Take 4 ∷ Put 5 1 ∷ Clear ∷ Level 5 ∷ Capacity ∷ Put 12 1 ∷ Take 12 ∷ Level 12 ∷ [])
    ≡ Ok (Count 0) ∷ Ok Done ∷ Ok Done ∷ Err StoreFull ∷ Ok (Byte 7) ∷ Ok Done ∷ Ok (Count 2) ∷ Ok (Byte 8) ∷ Ok (Byte 10) ∷ Err StoreEmpty ∷ Ok Done ∷ Ok Done ∷ Ok (Count 0) ∷ Ok (Count 2)
    ∷ Err NoSuchFibre ∷ Err NoSuchFibre ∷ Err NoSuchFibre ∷ [])
    × (answers_to 0 empty_lists (Put 0 1 ∷ []) ≡ Err StoreFull ∷ [])
    × ((number NoSuchFibre ≡ 3) × (number StoreFull ≡ 12) × (number StoreEmpty ≡ 13))
    × ((byte_capacity 0 ≡ 0) × (byte_capacity 11 ≡ 0) × (byte_capacity 84 ≡ 7) × (byte_capacity 24576 ≡ 2048) × (byte_capacity 30000 ≡ 2048))
    × ((word_capacity 11 ≡ 0) × (word_capacity 24 ≡ 8) × (word_capacity 6144 ≡ 2048) × (word_capacity 9000 ≡ 2048))
