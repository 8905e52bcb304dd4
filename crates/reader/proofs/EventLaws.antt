-- An event: what is written is read back, and what was read is what would be written.
-- Assumes nothing.
use Rattle.std.proofs.Common.{◌≡◌, ℕ, ◌+◌, ◌-◌, eqb, List, [], ◌∷◌, ◌++◌, length, get_or, take, drop, Some, None, Ok, Result, sym, refl, ap, ◌∙◌, subst, ap₂, append-nil, zero-add, arith, length-append, take-append-drop}
use Rattle.std.proofs.lemmas.Bool.{eqb-true, eq-eqb}
use Rattle.std.proofs.lemmas.List.{take_at, nil_from_length}
use Rattle.std.proofs.ByRecursion.{All-drop}
use Rattle.std.specs.List.{flat_map, AllByRecursion}
use Rattle.layout.specs.declared.kind.Kind.{Kind}
use Rattle.layout.specs.Event.{Byte, Content, ContentOk, Event, EventOk, record_bytes, bytes_of}
use Rattle.faults.specs.declared.fault.EventFault.{EventFault}
use Rattle.faults.specs.declared.fault.EventFault.TheVariants as events
use Rattle.reader.specs.Questions.{ok_map, and_then, ask, number_in, kind_of, Walked, read_records, known_kind, event_from, read_first}
use Rattle.reader.specs.Laws.{ExactlyTheLayout, ExactlyInFront, ComesBack}
use Rattle.reader.proofs.Asks.{ok_same, ask_ok, ask_yes, and_then_ok, ok_map_ok}
use Rattle.reader.proofs.Walk.{records_at}
use Rattle.reader.proofs.RecordLaws.{known_code, code_known, RecordsOk, one_more, records_sound, records_complete}

-- an event at the front of an input, and what lies behind its n bytes
pub record EventAt (xs : List ℕ) (e : Event) (n : ℕ) : Type 0 where
  pub event : EventOk e
  pub rest : List ℕ
  pub split : bytes_of e ++ rest ≡ xs
  pub size : n ≡ length (bytes_of e)

-- the twelve records of an event that was read are of the kind of fibre 0's
all_twelve : (xs : List ℕ) (w : Walked) → AllByRecursion Byte xs → read_records 12 None 0 xs ≡ Ok w → EventAt xs (event_from xs w) w.end
all_twelve xs w bytes h =
    let r = records_at 11 None 0 xs w h in
    let k : Kind = r.head.kind in
    let size : ℕ = number_in r.low r.high in
    let here : AllByRecursion Byte (r.low ∷ r.high ∷ r.code ∷ r.rest) = subst (λ (ys : List ℕ). AllByRecursion Byte ys) r.bytes bytes in
    let others =
    records_sound k 11 (0 + size) (drop (size - 3) r.rest) r.others (All-drop Byte (size - 3) r.rest here.1.1.1)
    (ap
    (λ (x : ℕ). read_records 11 (Some x) (0 + size) (drop (size - 3) r.rest))
    (sym (code_known r.code k r.head.known))
    ∙ r.tail) in
    let all : RecordsOk k 12 0 xs w = one_more k 11 None 0 xs w r refl bytes others in
    let is_kind : k ≡ known_kind (kind_of (get_or xs 2 0)) =
    sym (ap (λ (ys : List ℕ). known_kind (kind_of (get_or ys 2 0))) r.bytes ∙ ap known_kind r.head.known) in
    subst
    (λ (k : Kind). EventAt xs (record { kind = k; contents = w.contents }) w.end)
    is_kind
    (record {
      event = (all.count, all.content);
      rest = all.rest;
      split = all.split;
      size = sym all.end ∙ zero-add (length (flat_map (record_bytes k) w.contents));
    })

-- an event that was read at the front of an input
pub first_sound : (xs : List ℕ) (e : Event) (n : ℕ) → AllByRecursion Byte xs → read_first xs ≡ Ok (e, n) → EventAt xs e n
first_sound xs e n bytes h =
    let one = ok_map_ok (λ (w : Walked). (event_from xs w, w.end)) (read_records 12 None 0 xs) (e, n) h in
    subst (λ (p : Event × ℕ). EventAt xs p.0 p.1) one.2 (all_twelve xs one.0 bytes one.1)

event_complete :
    (k : Kind) (cs : List Content) (rest : List ℕ) →
    length cs ≡ 12 →
    AllByRecursion (ContentOk k) cs →
    read_first (flat_map (record_bytes k) cs ++ rest)
    ≡ Ok (record { kind = k; contents = cs }, length (flat_map (record_bytes k) cs))
event_complete k [] rest twelve ok = absurd (omega arith)
event_complete k (c ∷ cs) rest twelve ok =
    let xs : List ℕ = flat_map (record_bytes k) (c ∷ cs) ++ rest in
    let long : ℕ = length (flat_map (record_bytes k) (c ∷ cs)) in
    let w : Walked = record { contents = c ∷ cs; end = 0 + long } in
    let read : read_records 12 None 0 xs ≡ Ok w =
    ap (λ (n : ℕ). read_records n None 0 xs) (sym twelve) ∙ records_complete k (c ∷ cs) None 0 rest ok refl in
    ap (ok_map (λ (v : Walked). (event_from xs v, v.end))) read
    ∙ ap₂
    (λ (q : Kind) (i : ℕ). Ok (record { kind = q; contents = c ∷ cs }, i))
    (ap known_kind (known_code k))
    (zero-add long)

pub comes_back : ComesBack
comes_back e rest h = event_complete e.kind e.contents rest h.0 h.1

pub exactly_in_front : ExactlyInFront
exactly_in_front bs e n bytes = (
  λ h.
      let found = first_sound bs e n bytes h in
      let front : take n bs ≡ bytes_of e =
      ap (take n) (sym found.split) ∙ take_at (bytes_of e) found.rest n (sym found.size) in
      ((found.event, sym front), found.size),
  λ stands size.
      ap read_first (sym (take-append-drop n bs) ∙ ap (λ (ys : List ℕ). ys ++ drop n bs) (sym stands.1))
      ∙ comes_back e (drop n bs) stands.0
      ∙ ap (λ (i : ℕ). Ok (e, i)) (sym size),
)

pub exactly_the_layout : ExactlyTheLayout
exactly_the_layout bs e bytes = (
  λ h.
      let one = and_then_ok (read_first bs) _ e h in
      let size : ℕ = one.0.1 in
      let two = ask_ok (eqb size (length bs)) (events.LeftOver size) (Ok one.0.0) e one.2 in
      let same : one.0.0 ≡ e = ok_same one.0.0 e two.1 in
      let found =
      first_sound bs e size bytes (one.1 ∙ ap (λ (d : Event). Ok (d, size)) same) in
      let all : size ≡ length bs = eqb-true size (length bs) two.0 in
      let sum : length (bytes_of e ++ found.rest) ≡ length (bytes_of e) + length found.rest =
      length-append (bytes_of e) found.rest in
      let none : found.rest ≡ [] =
      nil_from_length found.rest
      (nothing (length (bytes_of e)) (length found.rest) (length (bytes_of e ++ found.rest)) (length bs) size sum
      (ap length found.split)
      all
      found.size) in
      (found.event, sym (append-nil (bytes_of e)) ∙ ap (λ (ys : List ℕ). bytes_of e ++ ys) (sym none) ∙ found.split),
  λ stands.
      let n : ℕ = length (bytes_of e) in
      let first : read_first bs ≡ Ok (e, n) =
      ap read_first (sym (append-nil (bytes_of e) ∙ stands.1)) ∙ comes_back e [] stands.0 in
      ap
      (λ (r : Result (Event × ℕ) EventFault). and_then r
      (λ p. ask (eqb p.1 (length bs)) (events.LeftOver p.1) (Ok p.0)))
      first
      ∙ ask_yes (eqb n (length bs)) (events.LeftOver n) (Ok e) e (eq-eqb n (length bs) (ap length stands.1)) refl,
)
  where
    nothing : (a b c d n : ℕ) → c ≡ a + b → c ≡ d → n ≡ d → n ≡ a → b ≡ 0
    nothing a b c d n p q r s = omega arith
