-- Laws of twelve lists and of the questions about a call. Assumes nothing.
use Rattle.std.proofs.Common.{◌≡◌, ℕ, ◌+◌, ◌-◌, ◌<◌, ◌≤◌, List, [], ◌∷◌, ◌++◌, length, get_or, take, drop, set, Ok, Err, Result, sym, refl, ap, ◌∙◌, ⊎_elim, arith}
use Rattle.std.proofs.lemmas.List.{append_assoc, length-append, length-drop, get_or-set_same, set-set, set_at, drop-drop, drop_more, take_more, get_or-drop, length-take-le}
use Rattle.std.proofs.lemmas.Bool.{cases_lt, lt-ltb, le-ltb, lt-leb, le-leb}
use Rattle.terms.specs.declared.refusal.Refusal.{Refusal}
use Rattle.terms.specs.declared.refusal.Refusal.TheVariants.{StoreFull, StoreEmpty}
use Rattle.stores.specs.Store.{waiting, level_of, oldest, appended, without, fibre_question, put_questions, take_questions, answering}

-- ---- the questions

pub ok_parts : {A : Type 0} (q : Result (Unit {0}) Refusal) (x a : A) → Ok x ≡ answering q a → (Ok tt ≡ q) × (x ≡ a)
ok_parts (Ok tt) x a e = (refl, cc)
ok_parts (Err r) x a e = let z : ◌≡◌ {A = ℕ} 0 1 = cc in absurd (omega arith)

pub err_part : {A : Type 0} (q : Result (Unit {0}) Refusal) (e : Refusal) (a : A) → Err e ≡ answering q a → Err e ≡ q
err_part (Ok tt) e a h = let z : ◌≡◌ {A = ℕ} 0 1 = cc in absurd (omega arith)
err_part (Err r) e a h = cc

pub answered_by : {A : Type 0} (q : Result (Unit {0}) Refusal) (x a : A) → Ok tt ≡ q → a ≡ x → Ok x ≡ answering q a
answered_by q x a e is = rw (← e, is)

pub impossible : {P : Type 0} → ◌≡◌ {A = ℕ} 0 1 → P
impossible z = absurd (omega arith)

-- a call that is refused was not granted
pub not_granted : {P : Type 0} (e : Refusal) (q : Result (Unit {0}) Refusal) → Err e ≡ q → q ≡ Ok tt → P
not_granted e q refused granted = impossible (cc)

pub put_fits : (room level f n : ℕ) → Ok tt ≡ put_questions room level f n → (f < 12) × (level + n ≤ room)
put_fits room level f n e =
    ⊎_elim
    (λ b. ⊎_elim
    (λ l. let r = rw (lt-ltb f 12 b, lt-leb (level + n) room l) at e in impossible (cc))
    (λ l. (b, l))
    (cases_lt room (level + n)))
    (λ b. let r = rw (le-ltb f 12 b) at e in impossible (cc))
    (cases_lt f 12)

pub take_fits : (level f n : ℕ) → Ok tt ≡ take_questions level f n → (f < 12) × (n ≤ level)
take_fits level f n e =
    ⊎_elim
    (λ b. ⊎_elim
    (λ l. let r = rw (lt-ltb f 12 b, lt-leb n level l) at e in impossible (cc))
    (λ l. (b, l))
    (cases_lt level n))
    (λ b. let r = rw (le-ltb f 12 b) at e in impossible (cc))
    (cases_lt f 12)

pub fibre_parts : {A : Type 0} (f : ℕ) (x y : A) → Ok x ≡ fibre_question f (Ok y) → (f < 12) × (x ≡ y)
fibre_parts f x y e =
    ⊎_elim
    (λ b. (b, let r = rw (lt-ltb f 12 b) at e in cc))
    (λ b. let r = rw (le-ltb f 12 b) at e in impossible (cc))
    (cases_lt f 12)

pub fibre_some : {A : Type 0} (f : ℕ) (x y : A) → f < 12 → y ≡ x → Ok x ≡ fibre_question f (Ok y)
fibre_some f x y h e = rw (lt-ltb f 12 h, e)

pub put_may : (room level f n : ℕ) → f < 12 → level + n ≤ room → put_questions room level f n ≡ Ok tt
put_may room level f n b l = rw (lt-ltb f 12 b, le-leb (level + n) room l)

pub put_full : (room level f n : ℕ) → f < 12 → room < level + n → put_questions room level f n ≡ Err StoreFull
put_full room level f n b l = rw (lt-ltb f 12 b, lt-leb (level + n) room l)

pub take_may : (level f n : ℕ) → f < 12 → n ≤ level → take_questions level f n ≡ Ok tt
take_may level f n b l = rw (lt-ltb f 12 b, le-leb n level l)

pub take_short : (level f n : ℕ) → f < 12 → level < n → take_questions level f n ≡ Err StoreEmpty
take_short level f n b l = rw (lt-ltb f 12 b, lt-leb n level l)

-- ---- the lists

module _ (lists : List (List ℕ)) (f : ℕ) (here : f < length lists) where
  pub waiting_appended : (xs : List ℕ) → waiting (appended lists f xs) f ≡ waiting lists f ++ xs
  waiting_appended xs = get_or-set_same lists f (waiting lists f ++ xs) [] here

  pub waiting_without : (n : ℕ) → waiting (without lists f n) f ≡ drop n (waiting lists f)
  waiting_without n = get_or-set_same lists f (drop n (waiting lists f)) [] here

  pub level_appended : (xs : List ℕ) → level_of (appended lists f xs) f ≡ level_of lists f + length xs
  level_appended xs = ap length (waiting_appended xs) ∙ length-append (waiting lists f) xs

  pub level_without : (n : ℕ) → level_of (without lists f n) f ≡ level_of lists f - n
  level_without n = ap length (waiting_without n) ∙ length-drop n (waiting lists f)

  -- first some bytes, then more
  pub appended_more : (xs ys : List ℕ) → appended (appended lists f xs) f ys ≡ appended lists f (xs ++ ys)
  appended_more xs ys =
      set-set lists f (waiting lists f ++ xs) (waiting (appended lists f xs) f ++ ys)
      ∙ ap (set lists f) (ap (λ l. l ++ ys) (waiting_appended xs) ∙ append_assoc (waiting lists f) xs ys)

  pub without_more : (m n : ℕ) → without (without lists f m) f n ≡ without lists f (m + n)
  without_more m n =
      set-set lists f (drop m (waiting lists f)) (drop n (waiting (without lists f m) f))
      ∙ ap (set lists f) (ap (drop n) (waiting_without m) ∙ drop-drop n m (waiting lists f))

-- ---- byte by byte

pub put_next : (lists : List (List ℕ)) (f i b : ℕ) (bytes : List ℕ) → f < length lists → i < length bytes → b ≡ get_or bytes i 0
    → appended (appended lists f (take i bytes)) f (b ∷ []) ≡ appended lists f (take (i + 1) bytes)
put_next lists f i b bytes here l is =
    appended_more lists f here (take i bytes) (b ∷ []) ∙ ap (appended lists f) (ap (λ x. take i bytes ++ (x ∷ [])) is ∙ sym (take_more bytes i 0 l))

-- the next byte that is taken goes behind those that were taken
pub take_next : (lists : List (List ℕ)) (f i x : ℕ) (out : List ℕ) → f < length lists → i < length out → i < level_of lists f → x ≡ oldest (without lists f i) f
    → set (take i (waiting lists f) ++ drop i out) i x ≡ take (i + 1) (waiting lists f) ++ drop (i + 1) out
take_next lists f i x out here l h is =
    let ws = waiting lists f in
    let n = length-take-le i ws (omega arith) in
    let e : x ≡ get_or ws i 0 = is ∙ ap (λ ys. get_or ys 0 0) (waiting_without lists f here i) ∙ get_or-drop i ws 0 0 ∙ ap (λ j. get_or ws j 0) (omega arith) in
    ap (λ ys. set (take i ws ++ ys) i x) (drop_more out i 0 l) ∙ set_at (take i ws) (get_or out i 0) (drop (i + 1) out) x i n
    ∙ sym (append_assoc (take i ws) (x ∷ []) (drop (i + 1) out))
    ∙ ap (λ ys. ys ++ drop (i + 1) out) (ap (λ y. take i ws ++ (y ∷ [])) e ∙ sym (take_more ws i 0 h))
