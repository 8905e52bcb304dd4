-- What waits, what a slip tells, and what a Fetch gives.
-- Assumes nothing.
use Rattle.std.proofs.Common.{◌≡◌, ℕ, ◌<◌, true, List, [], ◌∷◌, ◌++◌, map, length, Some, None, Option, sym, refl, ap, ◌∙◌, subst, arith}
use mathlib.Core.Path.{subst⁻¹}
use Rattle.std.specs.List.{range_with_len, flat_map, AllByRecursion}
use Rattle.std.proofs.ByRecursion.{All-push, All-drop, All-from_get_or}
use Rattle.rules.specs.Rules.{Meaning}
use Rattle.settings.specs.declared.card.CardSettings.{CardSettings}
use Rattle.settings.specs.declared.mode.Mode.{Mode}
use Rattle.settings.specs.Settings.{of_fibre}
use Rattle.layout.specs.Event.{Content, Event, ContentOk, EventOk, record_bytes, bytes_of, words}
use Rattle.strips.specs.Fibre.{fibre_record, kind_in, content_in}
use Rattle.strips.specs.Laws.{Bounded, RecordsOfTheLayout}
use Rattle.card_model.specs.Fibres.{for_fibres, in_fibre_order}
use Rattle.card_model.specs.Calls.{Call, load, clock, ask, fetch, give_back, reset, Answer, kept, fetched, was_reset, plain, Loss}
use Rattle.card_model.specs.State.{Capture, CardState}
use Rattle.card_model.specs.Readout.{record_of, loss}
use Rattle.card_model.specs.Clock.{Outcome, row, records_of, sought, within, completing, completed_answer, all_columns}
use Rattle.card_model.specs.Runs.{state_after, answer_after, completed, moved, columns_with, columns_by, records_by, records_waiting}
use Rattle.card_model.specs.Laws.{IsKept}
use Rattle.card_model.specs.Waiting.{Because, answered, LossesHaveReasons, FetchGivesOldest, FetchGivesEvent, ReadoutLaws, EventsOfTheLayout}
use Rattle.card_model.proofs.Fibres.{length_for, get_or_for, in_order_same}
use Rattle.card_model.proofs.Readout.{Holds, size_is, oldest_of, loss_because}
use Rattle.card_model.proofs.Ways.{none_completed, not_last, Ways, each_way}
use Rattle.card_model.proofs.Sound.{Tells, run_holds, run_tells}
use Rattle.card_model.proofs.Captures.{Complete, row_length, row_small, run_captured, not_completed, completion}
use Rattle.card_model.proofs.Early.{kept_if}
use Rattle.card_model.proofs.Ranks.{ranks_fit}

-- ---- a Fetch that gives bytes needs a slip

abbrev NeedsSlip : CardState → Call → Outcome → Type 0
NeedsSlip s c o = (bytes : List ℕ) → o.answer ≡ fetched bytes → s.readout.slip_out ≡ true

completed_no_fetch : (e : List (List ℕ)) (l : Option Loss) (bytes : List ℕ) → completed_answer e l ≡ fetched bytes → ⊥
completed_no_fetch e (Some l) bytes w = let z : ◌≡◌ {A = ℕ} 0 1 = cc in omega arith
completed_no_fetch e None bytes w = let z : ◌≡◌ {A = ℕ} 0 1 = cc in omega arith

slip_ways : (meaning : Meaning) (s : CardState) → Ways meaning s (NeedsSlip s)
unfolding sought within completing
slip_ways meaning s =
    record {
      same = λ c p none bytes w. cc;
      takes = λ word setting o e bytes w. cc;
      seeks = λ samples t e bytes w. cc;
      goes_on = λ samples c t e p bytes w. cc;
      completes = λ samples c t e p bytes w. absurd (completed_no_fetch _ _ bytes w);
      asks = λ lengths later o e bytes w. cc;
      fetches = λ buffer o bytes w. o;
      gives_back = λ o bytes w. o;
      resets = λ o bytes w. cc;
    }

pub fetch_gives_oldest : (meaning : Meaning) (room : ℕ) (h : List Call) (c : Call) → FetchGivesOldest meaning room h c
fetch_gives_oldest meaning room h c bytes e = (
  (run_holds meaning room h).some_wait (each_way meaning (state_after meaning room h) (NeedsSlip (state_after meaning room h)) (slip_ways meaning (state_after meaning room h)) c bytes e),
  subst (Tells (records_by meaning (state_after meaning room h) c) (records_waiting meaning room h)) e (run_tells meaning room h c),
)

-- ---- a completed event is answered by its loss

-- what is answered, and why
pub record Explained (meaning : Meaning) (room : ℕ) (es : List (List (List ℕ))) (s : CardState) (c : Call) (o : Outcome) (n : Mode) : Type 0 where
  pub why : Option Loss
  pub answer_is : o.answer ≡ answered (records_by meaning s c) why
  pub because : Because room es (records_by meaning s c) why

module _ (meaning : Meaning) (room : ℕ) (es : List (List (List ℕ))) (s : CardState) (h : Holds room es s.readout) where
  abbrev IfExplained : Call → Outcome → Type 0
  IfExplained c o = (n : Mode) → completed s c ≡ Some n → Explained meaning room es s c o n

  same_answer : (e : List (List ℕ)) (l : Option Loss) → completed_answer e l ≡ answered e l
  same_answer e (Some l) = refl
  same_answer e None = ap kept (size_is e)

  reason_ways : Ways meaning s IfExplained
  unfolding completing
  reason_ways =
      record {
        same = λ c p none n. not_completed s c n none;
        takes = λ word setting o e n. not_completed s (load word) n refl;
        seeks = λ samples t e n. not_completed s (clock samples) n (none_completed s samples t e);
        goes_on = λ samples c t e p n. not_completed s (clock samples) n (not_last s samples c t e p);
        completes =
            λ samples c t e p n w.
            let records = records_of meaning s.settings (all_columns c samples) in
            let i : records ≡ records_by meaning s (clock samples) =
            ap (λ (o : Option Capture). records_of meaning s.settings (columns_with o samples)) (sym e)
            in
            record {
              why = loss s.readout records;
              answer_is = same_answer records (loss s.readout records) ∙ ap (λ (r : List (List ℕ)). answered r (loss s.readout records)) i;
              because = subst (λ (r : List (List ℕ)). Because room es r (loss s.readout records)) i (loss_because room es s.readout h records);
            };
        asks = λ lengths later o e n. not_completed s ask n refl;
        fetches = λ buffer o n. not_completed s (fetch buffer) n refl;
        gives_back = λ o n. not_completed s give_back n refl;
        resets = λ o n. not_completed s reset n refl;
      }

pub losses_have_reasons : (meaning : Meaning) (room : ℕ) (h : List Call) (c : Call) → LossesHaveReasons meaning room h c
losses_have_reasons meaning room h c n e =
    let s = state_after meaning room h in
    let es = records_waiting meaning room h in
    let x = each_way meaning s (IfExplained meaning room es s (run_holds meaning room h)) (reason_ways meaning room es s (run_holds meaning room h)) c n e in
    (x.why, x.answer_is, x.because)

pub readout_laws : ReadoutLaws
readout_laws =
    record {
      in_order =
          λ meaning room calls.
          record {
            records = (run_holds meaning room calls).each;
            lengths = (run_holds meaning room calls).lengths;
            capacity = (run_holds meaning room calls).capacity;
            within = (run_holds meaning room calls).within;
            few = (run_holds meaning room calls).few;
          };
      losses = losses_have_reasons;
      slips = λ meaning room calls. (run_holds meaning room calls).some_wait;
      oldest = fetch_gives_oldest;
      ranks = ranks_fit;
    }

-- ---- the events that wait are events of the layout

-- twelve records that are the bytes of an event
abbrev IsEvent : List (List ℕ) → Type 0
IsEvent e = (event : Event) × EventOk event × (in_fibre_order (record_of e) ≡ bytes_of event)

-- what holds of each event kept holds of those that wait
all_moved : (P : List (List ℕ) → Type 0) (e : List (List ℕ)) (a : Answer) (es : List (List (List ℕ))) → (IsKept a → P e) → AllByRecursion P es → AllByRecursion P (moved e a es)
all_moved P e (kept n) es h k = All-push P es e k (h tt)
all_moved P e (fetched bytes) es h k = All-drop P 1 es k
all_moved P e was_reset es h k = tt
all_moved P e (plain p) es h k = k

joined_map : (g : Content → List ℕ) (k : ℕ → Content) (fs : List ℕ) → flat_map (λ f. g (k f)) fs ≡ flat_map g (map k fs)
joined_map g k [] = refl
joined_map g k (f ∷ fs) = ap (λ (xs : List ℕ). g (k f) ++ xs) (joined_map g k fs)

module _ (formed : RecordsOfTheLayout) (meaning : Meaning) (bounded : Bounded meaning) where
  -- the contents of a completed event
  abbrev contents : CardSettings → List (List ℕ) → ℕ → Content
  contents settings columns f = content_in meaning f (of_fibre settings f) settings.mode (row columns f)

  event_of : CardSettings → List (List ℕ) → Event
  event_of settings columns = record { kind = kind_in settings.mode; contents = for_fibres (contents settings columns) }

  records_are_event : (settings : CardSettings) (columns : List (List ℕ)) → Complete columns → IsEvent (records_of meaning settings columns)
  unfolding records_of event_of in_fibre_order for_fibres fibre_record
  records_are_event settings columns k = (
    event_of settings columns,
    (
      length_for (contents settings columns),
      All-from_get_or (ContentOk (kind_in settings.mode)) (for_fibres (contents settings columns)) (words [])
          (λ f inside.
          let below : f < 12 = omega (arith, length_for (contents settings columns)) in
          subst⁻¹ (ContentOk (kind_in settings.mode)) (get_or_for (contents settings columns) f (words []) below)
          (formed meaning f (of_fibre settings f) settings.mode (row columns f) bounded below (row_length columns f k) (row_small columns f below k))),
    ),
    in_order_same (record_of (records_of meaning settings columns)) (λ f. record_bytes (kind_in settings.mode) (contents settings columns f))
        (λ f below. get_or_for (λ g. fibre_record meaning g (of_fibre settings g) settings.mode (row columns g)) f [] below)
        ∙ joined_map (record_bytes (kind_in settings.mode)) (contents settings columns) (range_with_len 0 12),
  )

  run_events : (room : ℕ) (calls : List Call) → AllByRecursion IsEvent (records_waiting meaning room calls)
  run_events room [] = tt
  run_events room (c ∷ h) =
      let s = state_after meaning room h in
      all_moved IsEvent (records_by meaning s c) (answer_after meaning room h c) (records_waiting meaning room h)
      (λ k.
      records_are_event s.settings (columns_by s c)
      (completion meaning s (run_captured meaning room h) c s.settings.mode ((kept_if meaning s c).kept_completes k)).complete)
      (run_events room h)

  pub fetch_gives_event : (room : ℕ) (h : List Call) (c : Call) → FetchGivesEvent meaning room h c
  fetch_gives_event room h c bytes e =
      let o = fetch_gives_oldest meaning room h c bytes e in
      first (records_waiting meaning room h) o.0 (run_events room h) o.1
    where
      first : (es : List (List (List ℕ))) → 0 < length es → AllByRecursion IsEvent es → bytes ≡ in_fibre_order (record_of (oldest_of es))
          → (event : Event) × EventOk event × (bytes ≡ bytes_of event)
      first [] some all w = absurd (omega arith)
      first (x ∷ es) some all w = (all.0.0, all.0.1, w ∙ all.0.2)

pub events_of_the_layout : RecordsOfTheLayout → EventsOfTheLayout
events_of_the_layout formed meaning room bounded h c = fetch_gives_event formed meaning bounded room h c
