-- The walk over a stored run, event by event.
-- Assumes nothing.
use Rattle.std.proofs.Common.{◌≡◌, ℕ, ◌+◌, ◌<◌, ◌≤◌, List, [], ◌∷◌, ◌++◌, length, take, drop, Some, None, Err, sym, refl, ap, ◌∙◌, arith, length-append, take-append-drop}
use Rattle.std.proofs.lemmas.List.{append-nil, append_assoc, take_at, drop_at, drop-drop, take_all, length_push, length-take-le, nil_from_length}
use Rattle.std.proofs.ByRecursion.{All-push}
use Rattle.std.specs.List.{flat_map}
use Rattle.layout.specs.Event.{Event, EventOk, bytes_of}
use Rattle.reader.specs.declared.event.Event as parts
use Rattle.faults.specs.declared.fault.EventFault.{EventFault}
use Rattle.reader.specs.Laws.{RunOf}
use Rattle.reader.specs.Parts.{event_bytes, AcceptedFront, RejectedFront}
use Rattle.reader.specs.Questions.{Survey, survey, read_first}
use Rattle.reader.specs.Surveys.{Surveyed}
use Rattle.reader.proofs.Asks.{none_some, some_same}
use Rattle.reader.proofs.RunLaws.{run_complete}
use Rattle.reader.proofs.Walk.{next_event, no_event}

-- events that were found before those of a survey
abbrev pub with_events : List Event → Survey → Survey
with_events es s = record { events = es ++ s.events; end = s.end; fault = s.fault }

-- the walk has come to `end`, and `left` lies behind it
pub record Walking (run left : List ℕ) (count end : ℕ) : Type 0 where
  pub events : List Event
  pub before : RunOf (take end run) events
  pub counted : count ≡ length events
  pub behind : left ≡ drop end run
  pub within : end + length left ≡ length run
  pub few : count ≤ end
  pub walk : survey 0 0 run ≡ with_events events (survey 0 end left)

joined_push : (es : List Event) (e : Event) → flat_map bytes_of (es ++ e ∷ []) ≡ flat_map bytes_of es ++ bytes_of e
joined_push [] e = append-nil (bytes_of e)
joined_push (d ∷ es) e = ap (λ l. bytes_of d ++ l) (joined_push es e) ∙ sym (append_assoc (bytes_of d) (flat_map bytes_of es) (bytes_of e))

pub walk_more :
    (run left rest : List ℕ) (count end : ℕ) (e : parts.Event) →
    Walking run left count end →
    AcceptedFront left e rest →
    Walking run rest (count + 1) (end + length (event_bytes e)) × (0 < length (event_bytes e))
walk_more run left rest count end e w a =
    let v : Event = a.value in
    let n : ℕ = length (event_bytes e) in
    let next = next_event end left v n a.read in
    let some : 0 < n = next.0 in
    let parted : n + length rest ≡ length left = sym (length-append (event_bytes e) rest) ∙ ap length a.whole in
    let back : rest ≡ drop n left = sym (drop_at (event_bytes e) rest n refl) ∙ ap (drop n) a.whole in
    let bytes : bytes_of v ≡ event_bytes e = a.holds.0.1 in
    let split : take end run ++ (event_bytes e ++ rest) ≡ run = ap (λ l. take end run ++ l) (a.whole ∙ w.behind) ∙ take-append-drop end run in
    let front : List ℕ = take end run ++ event_bytes e in
    let passed : length (take end run) ≡ end = length-take-le end run (omega (arith, w.within)) in
    let size : length front ≡ end + n = length-append (take end run) (event_bytes e) ∙ ap (λ k. k + n) passed in
    let s : Survey = survey 0 (end + n) (drop n left) in
    let taken : take (end + n) run ≡ front = ap (take (end + n)) (sym (append_assoc (take end run) (event_bytes e) rest ∙ split)) ∙ take_at front rest (end + n) size in (
      record {
        events = w.events ++ v ∷ [];
        before = (
          All-push EventOk w.events v w.before.0 a.holds.0.0,
          joined_push w.events v ∙ (ap (λ l. l ++ bytes_of v) w.before.1 ∙ (ap (λ l. take end run ++ l) bytes ∙ sym taken)),
        );
        counted = ap (λ k. k + 1) w.counted ∙ sym (length_push w.events v);
        behind = back ∙ (ap (drop n) w.behind ∙ drop-drop n end run);
        within = omega (arith, parted, w.within);
        few = omega (arith, some, w.few);
        walk = w.walk
            ∙ (ap (with_events w.events) next.2
            ∙ (ap (λ l. record { events = l; end = s.end; fault = s.fault }) (sym (append_assoc w.events (v ∷ []) s.events))
            ∙ ap (λ l. with_events (w.events ++ v ∷ []) (survey 0 (end + n) l)) (sym back)));
      },
      some,
    )

-- what a run of events comes to
complete : (run : List ℕ) (es : List Event) → RunOf run es → survey 0 0 run ≡ record { events = es; end = 0 + length (flat_map bytes_of es); fault = None }
complete run es r = ap (survey 0 0) (sym r.1) ∙ run_complete 0 es r.0

pub walked :
    (run left : List ℕ) (count end : ℕ) →
    Walking run left count end →
    length left ≡ 0 →
    Surveyed run (record { events = count; end = end; fault = None })
walked run left count end w none =
    let nil : left ≡ [] = nil_from_length left none in
    let walk : survey 0 0 run ≡ record { events = w.events; end = end; fault = None } =
    w.walk
    ∙ (ap (λ l. with_events w.events (survey 0 end l)) nil
    ∙ ap (λ l. record { events = l; end = end; fault = None }) (append-nil w.events)) in
    record {
      events = w.events;
      walk = walk;
      count = w.counted;
      front = w.before;
      whole = λ _. (w.before.0, w.before.1 ∙ take_all end run (omega (arith, w.within)));
      every = λ es r. (refl, ap (λ s. s.events) (sym walk ∙ complete run es r));
      damaged = λ f h. absurd (none_some f h);
    }

stops : (at : ℕ) (left : List ℕ) (f : EventFault) → 0 < length left → read_first left ≡ Err f → survey 0 at left ≡ record { events = []; end = at; fault = Some f }
stops at [] f h r = absurd (omega arith)
stops at (x ∷ xs) f h r = no_event at x xs f r

pub broken :
    (run left : List ℕ) (count end : ℕ) (f : EventFault) →
    Walking run left count end →
    0 < length left →
    RejectedFront left f →
    Surveyed run (record { events = count; end = end; fault = Some f })
broken run left count end f w some r =
    let walk : survey 0 0 run ≡ record { events = w.events; end = end; fault = Some f } =
    w.walk
    ∙ (ap (with_events w.events) (stops end left f some r.read)
    ∙ ap (λ l. record { events = l; end = end; fault = Some f }) (append-nil w.events)) in
    record {
      events = w.events;
      walk = walk;
      count = w.counted;
      front = w.before;
      whole = λ h. absurd (none_some f (sym h));
      every = λ es q. absurd (none_some f (ap (λ s. s.fault) (sym (complete run es q) ∙ walk)));
      damaged = λ g h. ap read_first (sym w.behind) ∙ (r.read ∙ ap Err (some_same f g h));
    }
