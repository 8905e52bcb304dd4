-- The readout holds the records of the events that wait, one after the other.
-- Assumes nothing.
use Rattle.std.proofs.Common.{◌≡◌, ℕ, ◌+◌, ◌-◌, ◌<◌, ◌≤◌, Bool, true, leb, List, [], ◌∷◌, ◌++◌, map, length, get_or, take, drop, replicate, Some, None, Option, sym, refl, ap, ◌∙◌, ap₂, arith}
use Rattle.std.proofs.lemmas.List.{length-append, length-map, length-drop, length_push, flat_map_more, map_push, take_at, drop_at, get_or-replicate}
use Rattle.std.proofs.lemmas.Bool.{le-leb, leb-true, leb-false, ltb-true, ltb-false, cond-true, cond_both}
use Rattle.stores.specs.Store.{waiting, level_of}
use Rattle.card_model.specs.Fibres.{total, in_fibre_order, lowest}
use Rattle.card_model.specs.Calls.{too_many}
use Rattle.card_model.specs.State.{Readout, empty}
use Rattle.card_model.specs.Readout.{record_of, lengths_of, event_length, most_events, exceeds, lacking, loss, with_event, oldest_lengths, taken_from, left_in, oldest_bytes, without_event, with_slip}
use Rattle.card_model.specs.Waiting.{stacked, Because}
use Rattle.card_model.proofs.Fibres.{none_lowest, some_lowest, get_or_for, total_same, total_add, total_zero, in_order_same}

-- a readout of a capacity in which the events es wait
pub record Holds (room : ℕ) (es : List (List (List ℕ))) (r : Readout) : Type 0 where
  pub each : (f : ℕ) → f < 12 → waiting r.lists f ≡ stacked es f
  pub lengths : r.events ≡ map lengths_of es
  pub capacity : r.room ≡ room
  pub within : (f : ℕ) → f < 12 → length (stacked es f) ≤ room
  pub few : length es ≤ 255
  pub some_wait : r.slip_out ≡ true → 0 < length es

-- the length of an event
abbrev pub size : List (List ℕ) → ℕ
size e = event_length (lengths_of e)

pub length_in : (e : List (List ℕ)) (f : ℕ) → f < 12 → get_or (lengths_of e) f 0 ≡ length (record_of e f)
unfolding lengths_of
length_in e f h = get_or_for (λ g. length (record_of e g)) f 0 h

pub size_is : (e : List (List ℕ)) → size e ≡ total (λ f. length (record_of e f))
size_is e = total_same (λ f. get_or (lengths_of e) f 0) (λ f. length (record_of e f)) (length_in e)

-- the first n bytes of a list that begins with n bytes, and what they leave
taken_front : (p q : List ℕ) → taken_from (length p) (p ++ q) ≡ p
taken_front p q =
    cond-true (leb (length p) (length (p ++ q))) (take (length p) (p ++ q)) (replicate (length p) 0)
    (le-leb (length p) (length (p ++ q)) (omega (arith, length-append p q)))
    ∙ take_at p q (length p) refl

left_front : (p q : List ℕ) → left_in (length p) (p ++ q) ≡ q
left_front p q =
    cond-true (leb (length p) (length (p ++ q))) (drop (length p) (p ++ q)) (p ++ q)
    (le-leb (length p) (length (p ++ q)) (omega (arith, length-append p q)))
    ∙ drop_at p q (length p) refl

-- the oldest of the events, without records where none waits
abbrev pub oldest_of : List (List (List ℕ)) → List (List ℕ)
oldest_of es = get_or es 0 []

-- the length of the oldest event's record of a fibre
oldest_length : (room : ℕ) (es : List (List (List ℕ))) (r : Readout) → Holds room es r → (f : ℕ) → f < 12
    → get_or (oldest_lengths r) f 0 ≡ length (record_of (oldest_of es) f)
oldest_length room [] r h f below = ap (λ (q : List (List ℕ)). get_or (get_or q 0 []) f 0) h.lengths
oldest_length room (e ∷ es) r h f below = ap (λ (q : List (List ℕ)). get_or (get_or q 0 []) f 0) h.lengths ∙ length_in e f below

-- what waits on a fibre begins with the record of the oldest event
front : (es : List (List (List ℕ))) (f : ℕ) → stacked es f ≡ record_of (oldest_of es) f ++ stacked (drop 1 es) f
front [] f = refl
front (e ∷ es) f = refl

module _ (room : ℕ) (es : List (List (List ℕ))) (r : Readout) (h : Holds room es r) where
  -- a Fetch gives the records of the oldest event
  pub gives_oldest : oldest_bytes r ≡ in_fibre_order (record_of (oldest_of es))
  unfolding oldest_bytes
  gives_oldest =
      in_order_same (λ f. taken_from (get_or (oldest_lengths r) f 0) (waiting r.lists f)) (record_of (oldest_of es))
      (λ f below.
      ap₂ taken_from (oldest_length room es r h f below) (h.each f below ∙ front es f)
      ∙ taken_front (record_of (oldest_of es) f) (stacked (drop 1 es) f))

  -- and leaves those of the others
  pub fetched_holds : Holds room (drop 1 es) (without_event r)
  unfolding without_event
  fetched_holds =
      record {
        each =
            λ f below.
            get_or_for (λ g. left_in (get_or (oldest_lengths r) g 0) (waiting r.lists g)) f [] below
            ∙ (ap₂ left_in (oldest_length room es r h f below) (h.each f below ∙ front es f)
            ∙ left_front (record_of (oldest_of es) f) (stacked (drop 1 es) f));
        lengths = ap (λ (q : List (List ℕ)). drop 1 q) h.lengths ∙ dropped es;
        capacity = h.capacity;
        within =
            λ f below. omega (arith, h.within f below, ap length (front es f), length-append (record_of (oldest_of es) f) (stacked (drop 1 es) f));
        few = omega (arith, h.few, length-drop 1 es);
        some_wait = λ e. let z : ◌≡◌ {A = ℕ} 0 1 = cc in absurd (omega arith);
      }
    where
      dropped : (xs : List (List (List ℕ))) → drop 1 (map lengths_of xs) ≡ map lengths_of (drop 1 xs)
      dropped [] = refl
      dropped (x ∷ xs) = refl

  -- an event that is kept waits behind the others
  pub kept_holds : (e : List (List ℕ)) → Because room es e None → Holds room (es ++ e ∷ []) (with_event r e)
  unfolding with_event
  kept_holds e because =
      record {
        each =
            λ f below.
            get_or_for (λ g. waiting r.lists g ++ record_of e g) f [] below
            ∙ (ap (λ (xs : List ℕ). xs ++ record_of e f) (h.each f below) ∙ flat_map_more (λ x. record_of x f) [] es e);
        lengths = ap (λ (q : List (List ℕ)). q ++ lengths_of e ∷ []) h.lengths ∙ sym (map_push lengths_of es e);
        capacity = h.capacity;
        within =
            λ f below.
            let grown : stacked es f ++ record_of e f ≡ stacked (es ++ e ∷ []) f = flat_map_more (λ x. record_of x f) [] es e in
            omega (arith, because.1 f below, ap length grown, length-append (stacked es f) (record_of e f));
        few = omega (arith, because.0, length_push es e);
        some_wait = λ _. omega (arith, length_push es e);
      }

  -- a slip moves no event
  pub slip_holds : (out : Bool) → (out ≡ true → 0 < length es) → Holds room es (with_slip out r)
  slip_holds out some = record { each = h.each; lengths = h.lengths; capacity = h.capacity; within = h.within; few = h.few; some_wait = some }

  -- a loss has its reason, and so has an event that is kept
  lowest_because : (e : List (List ℕ)) → length es < 255 → (o : Option ℕ) → lowest (exceeds r e) ≡ o → Because room es e (lacking o)
  lowest_because e few None q = (
    few,
    λ f below.
        let level_is : level_of r.lists f ≡ length (stacked es f) = ap length (h.each f below) in
        let free : length (record_of e f) ≤ r.room - level_of r.lists f =
        ltb-false (r.room - level_of r.lists f) (length (record_of e f)) (none_lowest (exceeds r e) q f below)
        in
        omega (arith, h.capacity, h.within f below),
  )
  lowest_because e few (Some f) q =
      let first = some_lowest (exceeds r e) f q in
      let below : f < 12 = omega arith in
      let level_is : level_of r.lists f ≡ length (stacked es f) = ap length (h.each f below) in
      let over : r.room - level_of r.lists f < length (record_of e f) =
      ltb-true (r.room - level_of r.lists f) (length (record_of e f)) first.passes
      in (
        few,
        below,
        omega (arith, h.capacity, h.within f below),
        λ g lower.
            let inside : g < 12 = omega arith in
            let its_level : level_of r.lists g ≡ length (stacked es g) = ap length (h.each g inside) in
            let free : length (record_of e g) ≤ r.room - level_of r.lists g =
            ltb-false (r.room - level_of r.lists g) (length (record_of e g)) (first.no_lower g (omega arith) lower)
            in
            omega (arith, h.capacity, h.within g inside),
      )

  pub loss_because : (e : List (List ℕ)) → Because room es e (loss r e)
  unfolding loss
  loss_because e =
      let count : length r.events ≡ length es = ap length h.lengths ∙ length-map es lengths_of in
      cond_both (leb most_events (length r.events)) (Some too_many) (lacking (lowest (exceeds r e))) (Because room es e)
      (λ w. omega (arith, leb-true most_events (length r.events) w, h.few))
      (λ w. lowest_because e (omega (arith, leb-false most_events (length r.events) w)) (lowest (exceeds r e)) refl)

-- in an empty readout nothing waits
pub empty_holds : (room : ℕ) → Holds room [] (empty room)
empty_holds room =
    record {
      each = λ f below. get_or-replicate {A = List ℕ} 12 f [] [] below;
      lengths = refl;
      capacity = refl;
      within = λ f below. omega arith;
      few = omega arith;
      some_wait = λ e. let z : ◌≡◌ {A = ℕ} 0 1 = cc in absurd (omega arith);
    }

-- the sizes of some events together
abbrev pub sizes : List (List (List ℕ)) → ℕ
sizes [] = 0
sizes (e ∷ es) = size e + sizes es

pub sizes_push : (es : List (List (List ℕ))) (e : List (List ℕ)) → sizes (es ++ e ∷ []) ≡ sizes es + size e
sizes_push [] e = omega arith
sizes_push (x ∷ es) e = omega (arith, sizes_push es e)

-- the twelve levels are the sizes of the events that wait
stacked_total : (es : List (List (List ℕ))) → total (λ f. length (stacked es f)) ≡ sizes es
stacked_total [] = total_zero (λ f. 0) (λ f below. refl)
stacked_total (e ∷ es) =
    total_same (λ f. length (stacked (e ∷ es) f)) (λ f. length (record_of e f) + length (stacked es f))
    (λ f below. length-append (record_of e f) (stacked es f))
    ∙ (total_add (λ f. length (record_of e f)) (λ f. length (stacked es f))
    ∙ ap₂ (λ (m n : ℕ). m + n) (sym (size_is e)) (stacked_total es))

pub levels_are : (room : ℕ) (es : List (List (List ℕ))) (r : Readout) → Holds room es r → total (level_of r.lists) ≡ sizes es
levels_are room es r h =
    total_same (level_of r.lists) (λ f. length (stacked es f)) (λ f below. ap length (h.each f below)) ∙ stacked_total es
