-- What the end of a walk over twelve records says of the input.
-- Assumes nothing.
use Rattle.std.proofs.Common.{◌≡◌, ℕ, ◌+◌, ◌≤◌, eqb, List, [], ◌++◌, length, get_or, take, drop, Some, None, Ok, Err, Result, sym, refl, ap, ◌∙◌, ap₂, arith, length-append, take-append-drop}
use Rattle.std.proofs.lemmas.List.{append-nil, take_at, drop_at, length-take-le, nil_from_length}
use Rattle.std.proofs.lemmas.Bool.{eq-eqb, ne_eqb}
use Rattle.std.specs.List.{AllByRecursion}
use Rattle.layout.specs.Event.{Byte, Event, EventOk, bytes_of}
use Rattle.faults.specs.declared.fault.EventFault.{EventFault}
use Rattle.faults.specs.declared.fault.EventFault.TheVariants as events
use Rattle.reader.specs.declared.event.Event as parts
use Rattle.reader.specs.Parts.{event_bytes, Accepted, Rejected, AcceptedFront, RejectedFront}
use Rattle.reader.specs.Questions.{ask, and_then, read_event, ok_map, Walked, ends_at, event_from, kind_of, known_kind, read_first, read_records}
use Rattle.reader.proofs.Asks.{err_ok, ok_same, err_same, ok_map_ok}
use Rattle.reader.proofs.Steps.{asked, refused}
use Rattle.reader.proofs.Walk.{records_at}
use Rattle.reader.proofs.EventLaws.{first_sound, comes_back}

-- the event whose n bytes stand at the front
pub record Front (bs : List ℕ) (n : ℕ) : Type 0 where
  pub value : Event
  pub read : read_first bs ≡ Ok (value, n)
  pub event : EventOk value
  pub within : n ≤ length bs
  pub bytes : take n bs ≡ bytes_of value
  pub long : 3 ≤ length bs
  pub kind : kind_of (get_or bs 2 0) ≡ Some value.kind

pub front_found : (bs : List ℕ) (n : ℕ) → AllByRecursion Byte bs → Ok n ≡ ok_map ends_at (read_records 12 None 0 bs) → Front bs n
front_found bs n bytes h =
    let walked = ok_map_ok ends_at (read_records 12 None 0 bs) n (sym h) in
    let w : Walked = walked.0 in
    let e : Event = event_from bs w in
    let r : read_first bs ≡ Ok (e, n) = ap (ok_map (λ v. (event_from bs v, v.end))) walked.1 ∙ ap (λ k. Ok (e, k)) walked.2 in
    let at = first_sound bs e n bytes r in
    let head = records_at 11 None 0 bs w walked.1 in
    let code : get_or bs 2 0 ≡ head.code = ap (λ ys. get_or ys 2 0) head.bytes in
    let known : kind_of (get_or bs 2 0) ≡ Some head.head.kind = ap kind_of code ∙ head.head.known in
    record {
      value = e;
      read = r;
      event = at.event;
      within = omega (arith, ap length at.split, length-append (bytes_of e) at.rest, at.size);
      bytes = ap (take n) (sym at.split) ∙ take_at (bytes_of e) at.rest n (sym at.size);
      long = omega (arith, ap length head.bytes);
      kind = known ∙ ap Some (sym (ap known_kind known));
    }

-- no other event, and no other rest, makes up this input
pub front_only :
    (bs : List ℕ) (n : ℕ) (e : Event) →
    read_first bs ≡ Ok (e, n) →
    (d : Event) (more : List ℕ) →
    EventOk d →
    bytes_of d ++ more ≡ bs →
    (d ≡ e) × (more ≡ drop n bs)
front_only bs n e r d more ok h =
    let same = ok_same (d, length (bytes_of d)) (e, n) (sym (ap read_first (sym h) ∙ comes_back d more ok) ∙ r) in
    (ap (λ p. p.0) same, sym (drop_at (bytes_of d) more n (ap (λ p. p.1) same)) ∙ ap (drop n) h)

pub front_none :
    (bs : List ℕ) (f : EventFault) →
    read_first bs ≡ Err f →
    (d : Event) (more : List ℕ) →
    EventOk d →
    bytes_of d ++ more ≡ bs →
    ⊥
front_none bs f r d more ok h = err_ok f (d, length (bytes_of d)) (sym r ∙ (ap read_first (sym h) ∙ comes_back d more ok))

pub walk_fault : (bs : List ℕ) (f : EventFault) → Err f ≡ ok_map ends_at (read_records 12 None 0 bs) → read_first bs ≡ Err f
walk_fault bs f h = go (read_records 12 None 0 bs) refl h
  where
    go : (r : Result Walked EventFault) → read_records 12 None 0 bs ≡ r → Err f ≡ ok_map ends_at r → read_first bs ≡ Err f
    go (Ok w) e h = absurd (err_ok f w.end h)
    go (Err g) e h = ap (ok_map (λ v. (event_from bs v, v.end))) e ∙ ap Err (sym (err_same f g h))

pub accepted_front :
    (bs : List ℕ) (n : ℕ) (e : parts.Event) (rest : List ℕ) (f : Front bs n) →
    e.kind ≡ f.value.kind →
    event_bytes e ≡ take n bs →
    rest ≡ drop n bs →
    AcceptedFront bs e rest
accepted_front bs n e rest f kind front back =
    let size : length (event_bytes e) ≡ n = ap length front ∙ length-take-le n bs f.within in
    record {
      value = f.value;
      read = f.read ∙ ap (λ k. Ok (f.value, k)) (sym size);
      holds = ((f.event, sym (front ∙ f.bytes)), kind);
      whole = ap₂ ◌++◌ front back ∙ take-append-drop n bs;
      only = λ d more ok h. let o = front_only bs n f.value f.read d more ok h in (o.0, o.1 ∙ sym back);
    }

whole_read :
    (bs : List ℕ) (e : Event) (n : ℕ) →
    read_first bs ≡ Ok (e, n) →
    read_event bs ≡ ask (eqb n (length bs)) (events.LeftOver n) (Ok e)
whole_read bs e n h = ap (λ r. and_then r (λ p. ask (eqb p.1 (length bs)) (events.LeftOver p.1) (Ok p.0))) h

-- nothing lies behind the event
pub accepted : (bs : List ℕ) (e : parts.Event) (rest : List ℕ) → AcceptedFront bs e rest → length rest ≡ 0 → Accepted bs e
accepted bs e rest a none =
    let nil : rest ≡ [] = nil_from_length rest none in
    let whole : event_bytes e ≡ bs = sym (append-nil (event_bytes e)) ∙ (ap (λ ys. event_bytes e ++ ys) (sym nil) ∙ a.whole) in
    let n : ℕ = length (event_bytes e) in
    record {
      value = a.value;
      read = whole_read bs a.value n a.read ∙ asked _ _ _ (eq-eqb n (length bs) (ap length whole));
      holds = a.holds;
      whole = whole;
      only = λ d s. (a.only d [] s.0 (append-nil (bytes_of d) ∙ s.1)).0;
    }

-- something lies behind it
pub left_over :
    (bs : List ℕ) (e : parts.Event) (rest : List ℕ) →
    AcceptedFront bs e rest →
    (length rest ≡ 0 → ⊥) →
    Rejected bs (events.LeftOver (length (event_bytes e)))
left_over bs e rest a some =
    let n : ℕ = length (event_bytes e) in
    let sum : n + length rest ≡ length bs = sym (length-append (event_bytes e) rest) ∙ ap length a.whole in
    record {
      read = whole_read bs a.value n a.read ∙ refused _ _ _ (ne_eqb n (length bs) (λ h. some (omega arith)));
      none = λ d s. some (ap length (sym (a.only d [] s.0 (append-nil (bytes_of d) ∙ s.1)).1));
    }

pub rejected : (bs : List ℕ) (f : EventFault) → RejectedFront bs f → Rejected bs f
rejected bs f r =
    record {
      read = ap (λ r. and_then r (λ p. ask (eqb p.1 (length bs)) (events.LeftOver p.1) (Ok p.0))) r.read;
      none = λ d s. r.none d [] s.0 (append-nil (bytes_of d) ∙ s.1);
    }
