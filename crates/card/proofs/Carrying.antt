-- Lists of calls on a card, one call at a time.
-- Assumes nothing.
use Rattle.std.proofs.Common.{◌≡◌, ℕ, ◌+◌, ◌<◌, ◌≤◌, min, leb, List, [], ◌∷◌, map, reverse, length, get_or, take, drop, set, Ok, Err, Result, sym, refl, ap, ◌∙◌, subst, ap₂, ⊎_elim, arith}
use borrow.Rule.Slice.PartMut.{put_mid}
use Rattle.std.specs.List.{AllByRecursion}
use Rattle.std.specs.Result.{MatchResult, IsErrAnd}
use Rattle.std.proofs.lemmas.List.{map_push, map_more, reverse-append, take_more_set, take_all, take-take, take-append-le, drop-take, drop-drop, drop_at, drop-set-lt, length-take-le, length-drop}
use Rattle.std.proofs.ByRecursion.{All-push, All-weaker}
use Rattle.std.proofs.lemmas.Slice.{take-put_mid_below, drop-put_mid}
use Rattle.std.proofs.lemmas.List.Sums.{sum_by_more}
use Rattle.std.proofs.lemmas.Bool.{cases_Bool, cond-false, leb-true}
use Rattle.terms.specs.declared.refusal.Refusal.{Refusal}
use Rattle.terms.specs.declared.refusal.Refusal.TheVariants.{BufferTooShort}
use Rattle.rules.specs.Rules.{Meaning}
use Rattle.stores.proofs.Lists.{impossible}
use Rattle.card_model.specs.Calls as model
use Rattle.card_model.specs.State.{CardState, fresh}
use Rattle.card_model.specs.Step.{step}
use Rattle.card_model.specs.Runs.{state_after, answers}
use Rattle.card.specs.declared.call.Call.{Call}
use Rattle.card.specs.declared.call.Call.TheVariants as calls
use Rattle.card.specs.declared.answer.Answer.TheVariants as the
use Rattle.card.specs.declared.slip.Refused.{Refused}
use Rattle.card.specs.Steps.{Stepped, Fetched, said_fetch}
use Rattle.card.specs.Carrying.{Reply, call_of, answer_of, fetch_answer, lent_to, lent_in, newest_first, state_from, answers_from, largest_count, bytes_question, LiesWithin, Answered, Carried, CarriedOut, RunThrough, RunOut}

-- ---- one call

lies_weaker : (from from' to to' : ℕ) → from' ≤ from → to ≤ to' → (a : Reply) → LiesWithin from to a → LiesWithin from' to' a
lies_weaker from from' to to' l u (Ok the.Taken) h = tt
lies_weaker from from' to to' l u (Ok (the.Clocked c)) h = tt
lies_weaker from from' to to' l u (Ok (the.Slip n)) h = tt
lies_weaker from from' to to' l u (Ok (the.Fetched at n)) h = (omega arith, omega arith)
lies_weaker from from' to to' l u (Ok the.GivenBack) h = tt
lies_weaker from from' to to' l u (Ok (the.Level n)) h = tt
lies_weaker from from' to to' l u (Ok the.WasReset) h = tt
lies_weaker from from' to to' l u (Err e) h = tt

-- what the part of a buffer holds, read from the whole
part_read : (at k n : ℕ) (bytes ys : List ℕ) → at ≤ length bytes → n ≤ length ys → take n (drop at (put_mid at k bytes ys)) ≡ take n ys
part_read at k n bytes ys inside short =
    ap (take n) (drop_at (take at bytes) _ at (length-take-le at bytes inside)) ∙ take-append-le n ys _ short

fetch_says : (at k : ℕ) (bytes ys : List ℕ) (result : Result ℕ Refused) (gave : List ℕ) → at ≤ length bytes → length ys ≡ k
    → length (take k (drop at bytes)) ≡ k → Fetched gave (take k (drop at bytes)) ys result
    → answer_of (put_mid at k bytes ys) (fetch_answer result at) ≡ said_fetch result ys
fetch_says at k bytes ys (Ok n) gave inside long part wrote = ap model.fetched (part_read at k n bytes ys inside (omega (arith, wrote.1)))
fetch_says at k bytes ys (Err r) gave inside long part wrote = refl

fetch_lies : (at k : ℕ) (part ys : List ℕ) (result : Result ℕ Refused) (gave : List ℕ) → length part ≡ k → Fetched gave part ys result
    → LiesWithin at (at + k) (fetch_answer result at)
fetch_lies at k part ys (Ok n) gave long wrote = (omega arith, omega (arith, wrote.1))
fetch_lies at k part ys (Err r) gave long wrote = tt

-- what a Fetch returned, once its refusal has let the slip go
pub fetched_says : (result : Result ℕ Refused) (n at : ℕ)
    → MatchResult result (λ x. ◌≡◌ {A = Result ℕ Refusal} (Ok n) (Ok x)) (λ e. IsErrAnd {T = ℕ} {E = Refusal} (Ok n) (λ r. r ≡ e.refusal))
    → Ok (the.Fetched at n) ≡ fetch_answer result at
fetched_says (Ok x) n at m = let same : n ≡ x = cc in ap (λ (k : ℕ). Ok (the.Fetched at k)) same
fetched_says (Err e) n at m = absurd m

pub refused_says : (result : Result ℕ Refused) (r : Refusal) (at : ℕ) (Says : Refused → Type 0) → ((e : Refused) → Says e → r ≡ e.refusal)
    → MatchResult result (λ x. ◌≡◌ {A = Result ℕ Refusal} (Err r) (Ok x)) Says
    → Err r ≡ fetch_answer result at
refused_says (Ok x) r at Says says m = impossible (cc)
refused_says (Err e) r at Says says m = ap Err (says e m)

-- a Fetch into the part of a buffer from a place on, k bytes long
pub answered_fetch : (meaning : Meaning) (before after : CardState) (long at k : ℕ) (bytes ys gave : List ℕ) (result : Result ℕ Refused) (a : Reply)
    → k ≡ long → at + long ≤ length bytes → length ys ≡ length (take k (drop at bytes))
    → Stepped meaning before (model.fetch (length (take k (drop at bytes)))) after (said_fetch result ys)
    → Fetched gave (take k (drop at bytes)) ys result → a ≡ fetch_answer result at
    → Answered meaning before (calls.Fetch long) at bytes after a (put_mid at k bytes ys)
answered_fetch meaning before after long at k bytes ys gave result a same fits kept did wrote is =
    let part : length (take k (drop at bytes)) ≡ k = length-take-le k (drop at bytes) (simp length-drop (omega arith)) in
    let inside : at ≤ length bytes = omega arith in
    let whole = kept ∙ part in
    record {
      step =
          subst (λ (n : ℕ). Stepped meaning before (model.fetch n) after (answer_of (put_mid at k bytes ys) a)) (part ∙ same)
          (subst (λ (x : model.Answer). Stepped meaning before (model.fetch (length (take k (drop at bytes)))) after x)
          (sym (ap (answer_of (put_mid at k bytes ys)) is ∙ fetch_says at k bytes ys result gave inside whole part wrote)) did);
      lies =
          subst (λ (x : Reply). LiesWithin at (at + long) x) (sym is)
          (subst (λ (n : ℕ). LiesWithin at (at + n) (fetch_answer result at)) same (fetch_lies at k (take k (drop at bytes)) ys result gave part wrote));
      earlier = take-put_mid_below at k bytes ys at (omega arith) inside;
      later = drop-put_mid at k bytes ys (at + long) (omega arith) inside whole;
    }

-- ---- one call more

-- an answer whose bytes lie in a buffer's start is the same over every buffer that starts so
answer_kept : (at : ℕ) (xs ys : List ℕ) → take at xs ≡ take at ys → (a : Reply) → LiesWithin 0 at a → answer_of xs a ≡ answer_of ys a
answer_kept at xs ys e (Ok the.Taken) h = refl
answer_kept at xs ys e (Ok (the.Clocked c)) h = refl
answer_kept at xs ys e (Ok (the.Slip n)) h = refl
answer_kept at xs ys e (Ok (the.Fetched p n)) h =
    ap model.fetched
    (sym (drop-take p n xs)
    ∙ ap (drop p) (sym (take-take (p + n) at xs h.1) ∙ ap (take (p + n)) e ∙ take-take (p + n) at ys h.1)
    ∙ drop-take p n ys)
answer_kept at xs ys e (Ok the.GivenBack) h = refl
answer_kept at xs ys e (Ok (the.Level n)) h = refl
answer_kept at xs ys e (Ok the.WasReset) h = refl
answer_kept at xs ys e (Err r) h = refl

answers_kept : (at : ℕ) (xs ys : List ℕ) → take at xs ≡ take at ys → (row : List Reply) → AllByRecursion (LiesWithin 0 at) row
    → map (answer_of xs) row ≡ map (answer_of ys) row
answers_kept at xs ys e [] h = refl
answers_kept at xs ys e (a ∷ row) h = ap₂ (λ x l. x ∷ l) (answer_kept at xs ys e a h.0) (answers_kept at xs ys e row h.1)

newest_more : (cs : List Call) (i : ℕ) (d : Call) → i < length cs → newest_first (take (i + 1) cs) ≡ call_of (get_or cs i d) ∷ newest_first (take i cs)
newest_more cs i d here = ap reverse (map_more call_of cs i d here) ∙ reverse-append (map call_of (take i cs)) (call_of (get_or cs i d) ∷ [])

-- ---- what a list of calls is lent

-- a buffer that is long enough for all
enough : (lent long : ℕ) → Ok tt ≡ bytes_question lent long → lent ≤ long
enough lent long e =
    ⊎_elim (leb-true lent long)
    (λ h.
    let no = e ∙ cond-false (leb lent long) (Ok tt) (Err (BufferTooShort (min lent largest_count))) h in
    let z : ◌≡◌ {A = ℕ} 0 1 = cc in
    absurd (omega arith))
    (cases_Bool (leb lent long))

-- ---- call by call

-- where a card, its row of answers and its buffer stand after the first i of a list of calls
pub record Upto (meaning : Meaning) (before : CardState) (cs : List Call) (row : List Reply) (bytes : List ℕ) (i at : ℕ) (after : CardState) (row' : List Reply) (bytes' : List ℕ) : Type 0 where
  pub state : after ≡ state_from meaning before (newest_first (take i cs))
  pub says : reverse (map (answer_of bytes') (take i row')) ≡ answers_from meaning before (newest_first (take i cs))
  pub place : at ≡ lent_in (take i cs)
  pub lie : AllByRecursion (LiesWithin 0 at) (take i row')
  pub later_answers : drop i row' ≡ drop i row
  pub later_bytes : drop at bytes' ≡ drop at bytes

module _ (meaning : Meaning) (before : CardState) (cs : List Call) (row : List Reply) (bytes : List ℕ) (i at : ℕ) (after : CardState) (row' : List Reply) (bytes' : List ℕ)
    (upto : Upto meaning before cs row bytes i at after row' bytes') where
  module _ (d : Call) (here : i < length cs) (inside : i < length row') (after'' : CardState) (a : Reply) (bytes'' : List ℕ)
      (did : Answered meaning after (get_or cs i d) at bytes' after'' a bytes'') where
    state_more : after'' ≡ state_from meaning before (newest_first (take (i + 1) cs))
    state_more =
        did.step.state ∙ ap (λ (s : CardState). (step meaning s (call_of (get_or cs i d))).next_card) upto.state
        ∙ sym (ap (state_from meaning before) (newest_more cs i d here))

    says_more : reverse (map (answer_of bytes'') (take (i + 1) (set row' i a))) ≡ answers_from meaning before (newest_first (take (i + 1) cs))
    says_more =
        ap (λ (l : List Reply). reverse (map (answer_of bytes'') l)) (take_more_set row' i a inside)
        ∙ ap reverse (map_push (answer_of bytes'') (take i row') a)
        ∙ reverse-append (map (answer_of bytes'') (take i row')) (answer_of bytes'' a ∷ [])
        ∙ ap₂ (λ (x : model.Answer) (l : List model.Answer). x ∷ l)
        (did.step.says ∙ ap (λ (s : CardState). (step meaning s (call_of (get_or cs i d))).answer) upto.state)
        (ap reverse (answers_kept at bytes'' bytes' did.earlier (take i row') upto.lie) ∙ upto.says)
        ∙ sym (ap (answers_from meaning before) (newest_more cs i d here))

    lie_more : AllByRecursion (LiesWithin 0 (at + lent_to (get_or cs i d))) (take (i + 1) (set row' i a))
    lie_more =
        let end = at + lent_to (get_or cs i d) in
        subst (AllByRecursion (LiesWithin 0 end)) (sym (take_more_set row' i a inside))
        (All-push (LiesWithin 0 end) (take i row') a
        (All-weaker (LiesWithin 0 at) (LiesWithin 0 end) (lies_weaker 0 0 at end (omega arith) (omega arith)) (take i row') upto.lie)
        (lies_weaker at 0 end end (omega arith) (omega arith) a did.lies))

    later_answers_more : drop (i + 1) (set row' i a) ≡ drop (i + 1) row
    later_answers_more =
        drop-set-lt (i + 1) row' i a (omega arith) ∙ sym (drop-drop 1 i row') ∙ ap (drop 1) upto.later_answers ∙ drop-drop 1 i row

    later_bytes_more : drop (at + lent_to (get_or cs i d)) bytes'' ≡ drop (at + lent_to (get_or cs i d)) bytes
    later_bytes_more =
        let n = lent_to (get_or cs i d) in
        did.later ∙ sym (drop-drop n at bytes') ∙ ap (drop n) upto.later_bytes ∙ drop-drop n at bytes

    upto_more : Upto meaning before cs row bytes (i + 1) (at + lent_to (get_or cs i d)) after'' (set row' i a) bytes''
    upto_more =
        record {
          state = state_more;
          says = says_more;
          place = ap (λ (n : ℕ). n + lent_to (get_or cs i d)) upto.place ∙ sym (sum_by_more lent_to cs i d here);
          lie = lie_more;
          later_answers = later_answers_more;
          later_bytes = later_bytes_more;
        }

  -- the next call, answered by an equal rule
  pub upto_next : (m : Meaning) → m ≡ meaning → (d : Call) → i < length cs → i < length row' → (after'' : CardState) (a : Reply) (bytes'' : List ℕ)
      → Answered m after (get_or cs i d) at bytes' after'' a bytes'' → (n : ℕ) → n ≡ lent_to (get_or cs i d)
      → Upto meaning before cs row bytes (i + 1) (at + n) after'' (set row' i a) bytes''
  upto_next m same d here inside after'' a bytes'' did n is =
      subst (λ (k : ℕ). Upto meaning before cs row bytes (i + 1) (at + k) after'' (set row' i a) bytes'') (sym is)
      (upto_more d here inside after'' a bytes'' (subst (λ (x : Meaning). Answered x after (get_or cs i d) at bytes' after'' a bytes'') same did))

  pub upto_all : i ≡ length cs → Carried meaning before cs row bytes after row' bytes'
  upto_all end =
      let all = take_all i cs (omega arith) in
      let place = upto.place ∙ ap lent_in all in
      record {
        state = upto.state ∙ ap (λ (l : List Call). state_from meaning before (newest_first l)) all;
        says =
            ap (λ (n : ℕ). reverse (map (answer_of bytes') (take n row'))) (sym end) ∙ upto.says
            ∙ ap (λ (l : List Call). answers_from meaning before (newest_first l)) all;
        later_answers = subst (λ (n : ℕ). drop n row' ≡ drop n row) end upto.later_answers;
        later_bytes = subst (λ (n : ℕ). drop n bytes' ≡ drop n bytes) place upto.later_bytes;
      }

-- ---- from a new card

state_from_new : (meaning : Meaning) (room : ℕ) (h : List model.Call) → state_from meaning (fresh room) h ≡ state_after meaning room h
state_from_new meaning room [] = refl
state_from_new meaning room (c ∷ h) = ap (λ (s : CardState). (step meaning s c).next_card) (state_from_new meaning room h)

answers_from_new : (meaning : Meaning) (room : ℕ) (h : List model.Call) → answers_from meaning (fresh room) h ≡ answers meaning room h
answers_from_new meaning room [] = refl
answers_from_new meaning room (c ∷ h) =
    ap₂ (λ (x : model.Answer) (l : List model.Answer). x ∷ l) (ap (λ (s : CardState). (step meaning s c).answer) (state_from_new meaning room h))
    (answers_from_new meaning room h)

run_through : (meaning : Meaning) (room : ℕ) (cs : List Call) (row : List Reply) (bytes : List ℕ) (before after : CardState) (row' : List Reply) (bytes' : List ℕ)
    → before ≡ fresh room → Carried meaning before cs row bytes after row' bytes' → RunThrough meaning room cs row bytes row' bytes'
run_through meaning room cs row bytes before after row' bytes' new did =
    record {
      says = did.says ∙ ap (λ (s : CardState). answers_from meaning s (newest_first cs)) new ∙ answers_from_new meaning room (newest_first cs);
      later_answers = did.later_answers;
      later_bytes = did.later_bytes;
    }

pub run_out : (m meaning : Meaning) (room : ℕ) (cs : List Call) (row : List Reply) (bytes : List ℕ) (before after : CardState) (row' : List Reply) (bytes' : List ℕ)
    (r : Result (Unit {0}) Refusal) → m ≡ meaning → before ≡ fresh room
    → CarriedOut m before cs row bytes after row' bytes' r → RunOut meaning room cs row bytes row' bytes' r
run_out m meaning room cs row bytes before after row' bytes' (Ok x) same new did =
    run_through meaning room cs row bytes before after row' bytes' new (subst (λ (n : Meaning). Carried n before cs row bytes after row' bytes') same did)
run_out m meaning room cs row bytes before after row' bytes' (Err e) same new did = (did.answers, did.buffer)
