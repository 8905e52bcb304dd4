-- Lists of calls, one call at a time, and first in, first out. Assumes nothing.
use Rattle.std.proofs.Common.{◌≡◌, ℕ, suc, ◌+◌, ◌<◌, ◌≤◌, Bool, true, false, cond, eqb, List, [], ◌∷◌, ◌++◌, length, get_or, take, drop, set, is_ok, Ok, Err, Result, sym, refl, ap, ◌∙◌, ap₂, ⊎_elim, arith}
use Rattle.std.proofs.lemmas.List.{append-nil, append_assoc, length-set, get_or-set_other, take_more, drop_more, set_at, take_at, take_all, length-take-le}
use Rattle.std.proofs.lemmas.Bool.{cases_eq, eq-eqb, ne_eqb}
use Rattle.terms.specs.declared.refusal.Refusal.{Refusal}
use Rattle.stores.specs.declared.call.StoreCall.{StoreCall}
use Rattle.stores.specs.declared.call.StoreCall.TheVariants.{Put, Take, Level, Capacity, Clear}
use Rattle.stores.specs.declared.call.StoreReply.TheVariants.{Done, Byte}
use Rattle.stores.specs.Store.{waiting, level_of, oldest, appended, without, put_questions, take_questions, answering}
use Rattle.stores.specs.Runs.{StoreAnswer, as_answer, answer_to, lists_after, answers_to, lists_after_all, put_by, taken_by, over_all, Ran, Alike, Keeps, FirstInFirstOut}
use Rattle.stores.proofs.Lists.{put_fits, take_fits, waiting_appended, waiting_without}

-- ---- one call more

pub lists_push : (room : ℕ) (lists : List (List ℕ)) (cs : List StoreCall) (c : StoreCall)
    → lists_after_all room lists (cs ++ c ∷ []) ≡ lists_after room (lists_after_all room lists cs) c
lists_push room lists [] c = refl
lists_push room lists (d ∷ cs) c = lists_push room (lists_after room lists d) cs c

pub answers_push : (room : ℕ) (lists : List (List ℕ)) (cs : List StoreCall) (c : StoreCall)
    → answers_to room lists (cs ++ c ∷ []) ≡ answers_to room lists cs ++ answer_to room (lists_after_all room lists cs) c ∷ []
answers_push room lists [] c = refl
answers_push room lists (d ∷ cs) c = ap (λ rest. answer_to room lists d ∷ rest) (answers_push room (lists_after room lists d) cs c)

pub length_answers : (room : ℕ) (lists : List (List ℕ)) (cs : List StoreCall) → length (answers_to room lists cs) ≡ length cs
length_answers room lists [] = refl
length_answers room lists (c ∷ cs) = ap suc (length_answers room (lists_after room lists c) cs)

-- the next of a list of calls, carried out where those before it left a store
module _ (room : ℕ) (lists : List (List ℕ)) (calls : List StoreCall) (i : ℕ) (d : StoreCall) (here : i < length calls)
    (room' : ℕ) (lists' : List (List ℕ)) (same : room' ≡ room) (left : lists' ≡ lists_after_all room lists (take i calls)) where
  pub lists_more : (next : List (List ℕ)) → next ≡ lists_after room' lists' (get_or calls i d) → next ≡ lists_after_all room lists (take (i + 1) calls)
  lists_more next is =
      is ∙ ap₂ (λ r l. lists_after r l (get_or calls i d)) same left
      ∙ sym (ap (lists_after_all room lists) (take_more calls i d here) ∙ lists_push room lists (take i calls) (get_or calls i d))

  pub answers_more : (a : StoreAnswer) → a ≡ answer_to room' lists' (get_or calls i d) → answers_to room lists (take i calls) ++ a ∷ [] ≡ answers_to room lists (take (i + 1) calls)
  answers_more a is =
      ap (λ x. answers_to room lists (take i calls) ++ x ∷ []) (is ∙ ap₂ (λ r l. answer_to r l (get_or calls i d)) same left)
      ∙ sym (ap (answers_to room lists) (take_more calls i d here) ∙ answers_push room lists (take i calls) (get_or calls i d))

-- the next answer goes behind those that were written
pub row_more : (xs row : List StoreAnswer) (i : ℕ) (a : StoreAnswer) → length xs ≡ i → i < length row
    → set (xs ++ drop i row) i a ≡ (xs ++ a ∷ []) ++ drop (i + 1) row
row_more xs row i a long l =
    ap (λ ys. set (xs ++ ys) i a) (drop_more row i a l) ∙ set_at xs (get_or row i a) (drop (i + 1) row) a i long ∙ sym (append_assoc xs (a ∷ []) (drop (i + 1) row))

-- where a store and its row are after the first i of a list of calls
pub record Upto (room : ℕ) (lists : List (List ℕ)) (calls : List StoreCall) (row : List StoreAnswer) (i : ℕ) (room' : ℕ) (lists' : List (List ℕ)) (row' : List StoreAnswer) : Type 0 where
  pub left : lists' ≡ lists_after_all room lists (take i calls)
  pub same : room' ≡ room
  pub wrote : row' ≡ answers_to room lists (take i calls) ++ drop i row

pub upto_more : (room : ℕ) (lists : List (List ℕ)) (calls : List StoreCall) (row : List StoreAnswer) (i : ℕ) (room' : ℕ) (lists' : List (List ℕ)) (row' : List StoreAnswer)
    (d : StoreCall) (room'' : ℕ) (lists'' : List (List ℕ)) (a : StoreAnswer)
    → Upto room lists calls row i room' lists' row' → i < length calls → length calls ≤ length row
    → a ≡ answer_to room' lists' (get_or calls i d) → lists'' ≡ lists_after room' lists' (get_or calls i d) → room'' ≡ room'
    → Upto room lists calls row (i + 1) room'' lists'' (set row' i a)
upto_more room lists calls row i room' lists' row' d room'' lists'' a at here fits is next same =
    let long = length_answers room lists (take i calls) ∙ length-take-le i calls (omega arith) in
    record {
      left = lists_more room lists calls i d here room' lists' at.same at.left lists'' next;
      same = same ∙ at.same;
      wrote = ap (λ ys. set ys i a) at.wrote ∙ row_more (answers_to room lists (take i calls)) row i a long (omega arith)
          ∙ ap (λ xs. xs ++ drop (i + 1) row) (answers_more room lists calls i d here room' lists' at.same at.left a is);
    }

pub upto_all : (room : ℕ) (lists : List (List ℕ)) (calls : List StoreCall) (row : List StoreAnswer) (i : ℕ) (room' : ℕ) (lists' : List (List ℕ)) (row' : List StoreAnswer)
    → Upto room lists calls row i room' lists' row' → i ≡ length calls → Ran room lists calls row true room' lists' row'
upto_all room lists calls row i room' lists' row' at end =
    let all = take_all i calls (omega arith) in
    record {
      answers = at.wrote ∙ ap₂ (λ cs n. answers_to room lists cs ++ drop n row) all end;
      lists_then = at.left ∙ ap (lists_after_all room lists) all;
      room_then = at.same;
    }

-- ---- first in, first out

eq_here : {A : Type 0} (g f : ℕ) (x y : A) → g ≡ f → cond (eqb g f) x y ≡ x
eq_here g f x y e = ap (λ t. cond t x y) (eq-eqb g f e)

eq_there : {A : Type 0} (g f : ℕ) (x y : A) → (g ≡ f → ⊥) → cond (eqb g f) x y ≡ y
eq_there g f x y ne = ap (λ t. cond t x y) (ne_eqb g f ne)

first_of : (xs : List ℕ) → 1 ≤ length xs → xs ≡ get_or xs 0 0 ∷ drop 1 xs
first_of xs h = drop_more xs 0 0 h

-- a Put on fibre g
put_order : (lists : List (List ℕ)) (room f g b : ℕ) (q : Result (Unit {0}) Refusal) → length lists ≡ 12 → q ≡ put_questions room (level_of lists g) g 1
    → waiting lists f ++ put_by f (Put g b) (as_answer (λ _. Done) q) ≡ waiting (cond (is_ok q) (appended lists g (b ∷ [])) lists) f
put_order lists room f g b (Err e) twelve is = append-nil (waiting lists f)
put_order lists room f g b (Ok tt) twelve is =
    let in' = (put_fits room (level_of lists g) g 1 is).0 in
    ⊎_elim
    (λ e.
    ap (λ ys. waiting lists f ++ ys) (eq_here g f (b ∷ []) [] e) ∙ ap (λ h. waiting lists h ++ b ∷ []) (sym e)
    ∙ sym (waiting_appended lists g (omega arith) (b ∷ [])) ∙ ap (waiting (appended lists g (b ∷ []))) e)
    (λ ne.
    ap (λ ys. waiting lists f ++ ys) (eq_there g f (b ∷ []) [] ne) ∙ append-nil (waiting lists f)
    ∙ sym (get_or-set_other lists g f _ [] (λ e. ne (sym e))))
    (cases_eq g f)

-- a Take from fibre g
take_order : (lists : List (List ℕ)) (f g : ℕ) (q : Result (Unit {0}) Refusal) → length lists ≡ 12 → q ≡ take_questions (level_of lists g) g 1
    → waiting lists f ≡ taken_by f (Take g) (as_answer Byte (answering q (oldest lists g))) ++ waiting (cond (is_ok q) (without lists g 1) lists) f
take_order lists f g (Err e) twelve is = refl
take_order lists f g (Ok tt) twelve is =
    let in' = take_fits (level_of lists g) g 1 is in
    ⊎_elim
    (λ e.
    ap (waiting lists) (sym e) ∙ first_of (waiting lists g) in'.1
    ∙ ap₂ (λ xs ys. xs ++ ys) (sym (eq_here g f (oldest lists g ∷ []) [] e)) (sym (waiting_without lists g (omega arith) 1) ∙ ap (waiting (without lists g 1)) e))
    (λ ne.
    sym (get_or-set_other lists g f _ [] (λ e. ne (sym e)))
    ∙ ap (λ xs. xs ++ waiting (without lists g 1) f) (sym (eq_there g f (oldest lists g ∷ []) [] ne)))
    (cases_eq g f)

one_order : (lists : List (List ℕ)) (room f : ℕ) (c : StoreCall) → length lists ≡ 12 → Keeps c
    → waiting lists f ++ put_by f c (answer_to room lists c) ≡ taken_by f c (answer_to room lists c) ++ waiting (lists_after room lists c) f
one_order lists room f (Put g b) twelve _ = put_order lists room f g b (put_questions room (level_of lists g) g 1) twelve refl
one_order lists room f (Take g) twelve _ = append-nil (waiting lists f) ∙ take_order lists f g (take_questions (level_of lists g) g 1) twelve refl
one_order lists room f (Level g) twelve _ = append-nil (waiting lists f)
one_order lists room f Capacity twelve _ = append-nil (waiting lists f)
one_order lists room f Clear twelve no' = absurd no'

still_twelve : (lists : List (List ℕ)) (room : ℕ) (c : StoreCall) → length lists ≡ 12 → length (lists_after room lists c) ≡ 12
still_twelve lists room (Put g b) twelve = by (is_ok (put_questions room (level_of lists g) g 1))
  where
    by : (t : Bool) → length (cond t (appended lists g (b ∷ [])) lists) ≡ 12
    by true = length-set lists g (waiting lists g ++ b ∷ []) ∙ twelve
    by false = twelve
still_twelve lists room (Take g) twelve = by (is_ok (take_questions (level_of lists g) g 1))
  where
    by : (t : Bool) → length (cond t (without lists g 1) lists) ≡ 12
    by true = length-set lists g (drop 1 (waiting lists g)) ∙ twelve
    by false = twelve
still_twelve lists room (Level g) twelve = twelve
still_twelve lists room Capacity twelve = twelve
still_twelve lists room Clear twelve = refl

pub in_order : (calls : List StoreCall) (lists : List (List ℕ)) (room : ℕ) (rest : List StoreAnswer) → length lists ≡ 12
    → FirstInFirstOut lists calls (answers_to room lists calls ++ rest) (lists_after_all room lists calls)
in_order [] lists room rest twelve keeps f = append-nil (waiting lists f)
in_order (c ∷ cs) lists room rest twelve keeps f =
    let next = lists_after room lists c in
    let a = answer_to room lists c in
    let later = answers_to room next cs ++ rest in
    let puts = over_all (put_by f) cs later in
    sym (append_assoc (waiting lists f) (put_by f c a) puts)
    ∙ ap (λ xs. xs ++ puts) (one_order lists room f c twelve keeps.0)
    ∙ append_assoc (taken_by f c a) (waiting next f) puts
    ∙ ap (λ xs. taken_by f c a ++ xs) (in_order cs next room rest (still_twelve lists room c twelve) keeps.1 f)
    ∙ sym (append_assoc (taken_by f c a) (over_all (taken_by f) cs later) (waiting (lists_after_all room next cs) f))

-- two stores of one capacity and equal lists
pub ran_alike : (room room₂ : ℕ) (lists lists₂ : List (List ℕ)) (calls : List StoreCall) (row row₂ : List StoreAnswer) (room' room₂' : ℕ) (lists' lists₂' : List (List ℕ)) (row' row₂' : List StoreAnswer)
    → Ran room lists calls row true room' lists' row' → Ran room₂ lists₂ calls row₂ true room₂' lists₂' row₂'
    → room ≡ room₂ → lists ≡ lists₂ → Alike (length calls) row' row₂' lists' lists₂'
ran_alike room room₂ lists lists₂ calls row row₂ room' room₂' lists' lists₂' row' row₂' one other r l =
    record {
      answers =
          ap (take (length calls)) one.answers ∙ take_at (answers_to room lists calls) _ (length calls) (length_answers room lists calls)
          ∙ ap₂ (λ n ls. answers_to n ls calls) r l
          ∙ sym (ap (take (length calls)) other.answers ∙ take_at (answers_to room₂ lists₂ calls) _ (length calls) (length_answers room₂ lists₂ calls));
      lists_then = one.lists_then ∙ ap₂ (λ n ls. lists_after_all n ls calls) r l ∙ sym other.lists_then;
    }
