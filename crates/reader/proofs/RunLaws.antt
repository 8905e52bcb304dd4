-- A stored run: the events that a walk over it finds, and what ended it.
-- Assumes nothing.
use Rattle.std.proofs.Common.{◌≡◌, ℕ, zero, suc, ◌+◌, ◌-◌, ◌<◌, ◌≤◌, List, [], ◌∷◌, ◌++◌, length, take, drop, Some, None, Ok, Err, Option, Result, sym, refl, ap, ◌∙◌, subst, append_assoc, append-nil, add-zero, zero-add, arith, length-append, length-drop}
use Rattle.std.proofs.lemmas.List.{take_at, drop_at}
use Rattle.std.proofs.ByRecursion.{All-drop}
use Rattle.std.specs.List.{flat_map, AllByRecursion}
use Rattle.layout.specs.Event.{Byte, Event, EventOk, bytes_of}
use Rattle.faults.specs.declared.fault.EventFault.{EventFault}
use Rattle.reader.specs.Questions.{read_first, Survey, with_event, survey}
use Rattle.reader.specs.Laws.{ExactlyTheRun, UpToTheDamage}
use Rattle.reader.proofs.Walk.{next_event, no_event}
use Rattle.reader.proofs.EventLaws.{first_sound, comes_back}

-- what ended a walk: nothing is left, or what is left does not begin with an event
abbrev pub Ended : List ℕ → Option EventFault → Type 0
Ended rest None = rest ≡ []
Ended rest (Some f) = read_first rest ≡ Err f

-- what a walk from offset `at` on found
pub record Found (at : ℕ) (xs : List ℕ) (s : Survey) : Type 0 where
  pub sound : AllByRecursion EventOk s.events
  pub rest : List ℕ
  pub split : flat_map bytes_of s.events ++ rest ≡ xs
  pub end : at + length (flat_map bytes_of s.events) ≡ s.end
  pub ended : Ended rest s.fault

one_event_more :
    (at : ℕ) (xs : List ℕ) (e : Event) (n : ℕ) →
    AllByRecursion Byte xs →
    read_first xs ≡ Ok (e, n) →
    Found (at + n) (drop n xs) (survey 0 (at + n) (drop n xs)) →
    Found at xs (survey 0 at xs)
one_event_more at xs e n bytes read below =
    let found = first_sound xs e n bytes read in
    let others : Survey = survey 0 (at + n) (drop n xs) in
    let tail : List ℕ = flat_map bytes_of others.events in
    let behind : drop n xs ≡ found.rest =
    ap (drop n) (sym found.split) ∙ drop_at (bytes_of e) found.rest n (sym found.size) in
    let long : length (bytes_of e ++ tail) ≡ length (bytes_of e) + length tail = length-append (bytes_of e) tail in
    let size : n ≡ length (bytes_of e) = found.size in
    let end : at + n + length tail ≡ others.end = below.end in
    subst
    (λ (s : Survey). Found at xs s)
    (sym (next_event at xs e n read).2)
    (record {
      sound = (found.event, below.sound);
      rest = below.rest;
      split =
          append_assoc (bytes_of e) tail below.rest
          ∙ ap (λ (ys : List ℕ). bytes_of e ++ ys) (below.split ∙ behind)
          ∙ found.split;
      end = shift at n (length (bytes_of e)) (length tail) (length (bytes_of e ++ tail)) others.end long size end;
      ended = below.ended;
    })
  where
    shift : (at n front tail both end : ℕ) → both ≡ front + tail → n ≡ front → at + n + tail ≡ end → at + both ≡ end
    shift at n front tail both end a b c = omega arith

-- by the number of bytes that are left
walk_sound : (room at : ℕ) (xs : List ℕ) → length xs ≤ room → AllByRecursion Byte xs → Found at xs (survey 0 at xs)
walk_sound room at [] fits bytes = record { sound = tt; rest = []; split = refl; end = add-zero at; ended = refl }
walk_sound zero at (x ∷ xs) fits bytes = absurd (omega arith)
walk_sound (suc room) at (x ∷ xs) fits bytes = go (read_first (x ∷ xs)) refl (λ n more. walk_sound room (at + n) (drop n (x ∷ xs)) more (All-drop Byte n (x ∷ xs) bytes))
  where
    go :
        (r : Result (Event × ℕ) EventFault) →
        read_first (x ∷ xs) ≡ r →
        ((n : ℕ) → length (drop n (x ∷ xs)) ≤ room → Found (at + n) (drop n (x ∷ xs)) (survey 0 (at + n) (drop n (x ∷ xs)))) →
        Found at (x ∷ xs) (survey 0 at (x ∷ xs))
    go (Ok p) e below =
        let step = next_event at (x ∷ xs) p.0 p.1 e in
        let least : 0 < p.1 = step.0 in
        let left : length (drop p.1 (x ∷ xs)) ≡ suc (length xs) - p.1 = length-drop p.1 (x ∷ xs) in
        one_event_more at (x ∷ xs) p.0 p.1 bytes e (below p.1 (omega arith))
    go (Err f) e below =
        subst
        (λ (s : Survey). Found at (x ∷ xs) s)
        (sym (no_event at x xs f e))
        (record { sound = tt; rest = x ∷ xs; split = refl; end = add-zero at; ended = e })

-- what the walk over any input finds
pub run_sound : (at : ℕ) (xs : List ℕ) → AllByRecursion Byte xs → Found at xs (survey 0 at xs)
run_sound at xs bytes = walk_sound (length xs) at xs (omega arith) bytes

-- events one after the other are all found
pub run_complete :
    (at : ℕ) (es : List Event) →
    AllByRecursion EventOk es →
    survey 0 at (flat_map bytes_of es) ≡ record { events = es; end = at + length (flat_map bytes_of es); fault = None }
run_complete at [] ok = ap (λ (i : ℕ). record { events = []; end = i; fault = None }) (sym (add-zero at))
run_complete at (e ∷ es) ok =
    let n : ℕ = length (bytes_of e) in
    let tail : List ℕ = flat_map bytes_of es in
    let long : length (bytes_of e ++ tail) ≡ n + length tail = length-append (bytes_of e) tail in
    let end : at + n + length tail ≡ at + length (bytes_of e ++ tail) = omega arith in
    (next_event at (bytes_of e ++ tail) e n (comes_back e tail ok.0)).2
    ∙ ap (λ (ys : List ℕ). with_event e (survey 0 (at + n) ys)) (drop_at (bytes_of e) tail n refl)
    ∙ ap (with_event e) (run_complete (at + n) es ok.1)
    ∙ ap (λ (i : ℕ). record { events = e ∷ es; end = i; fault = None }) end

pub exactly_the_run : ExactlyTheRun
exactly_the_run bs es bytes = (
  λ h.
      let found = run_sound 0 bs bytes in
      let none : found.rest ≡ [] = subst (Ended found.rest) h.0 found.ended in
      subst
      (λ (es : List Event). AllByRecursion EventOk es × (flat_map bytes_of es ≡ bs))
      h.1 (
        found.sound,
        sym (append-nil _) ∙ ap (λ (ys : List ℕ). flat_map bytes_of (survey 0 0 bs).events ++ ys) (sym none) ∙ found.split,
      ),
  λ run.
      let all : survey 0 0 bs ≡ record { events = es; end = 0 + length (flat_map bytes_of es); fault = None } =
      ap (survey 0 0) (sym run.1) ∙ run_complete 0 es run.0 in
      (ap (λ (s : Survey). s.fault) all, ap (λ (s : Survey). s.events) all),
)

pub up_to_the_damage : UpToTheDamage
up_to_the_damage bs f bytes h =
    let found = run_sound 0 bs bytes in
    let events : List Event = (survey 0 0 bs).events in
    let front : List ℕ = flat_map bytes_of events in
    let size : length front ≡ (survey 0 0 bs).end = sym (zero-add (length front)) ∙ found.end in
    let end : ℕ = (survey 0 0 bs).end in
    let before : take end bs ≡ front = ap (take end) (sym found.split) ∙ take_at front found.rest end size in
    let behind : drop end bs ≡ found.rest = ap (drop end) (sym found.split) ∙ drop_at front found.rest end size in
    ((found.sound, sym before), ap read_first behind ∙ subst (Ended found.rest) h found.ended)
