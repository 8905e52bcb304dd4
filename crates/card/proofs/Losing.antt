-- Whether a completed event is lost, and what is kept.
-- Assumes nothing.
use Rattle.std.proofs.Common.{◌≡◌, ℕ, ◌-◌, ◌<◌, ◌≤◌, Bool, true, false, cond, eqb, ltb, leb, List, [], ◌∷◌, ◌++◌, length, get_or, Some, None, Ok, Option, sym, refl, ap, ◌∙◌, subst, ap₂, arith}
use Rattle.std.proofs.lemmas.List.{get_or_default}
use Rattle.std.proofs.lemmas.Bool.{cond-true, cond-false, le-leb, lt-leb, lt-ltb, leb-false, ltb-false}
use Rattle.rules.specs.Rules.{Meaning}
use Rattle.stores.specs.Store.{waiting, level_of, put_questions}
use Rattle.stores.proofs.Lists.{put_may}
use Rattle.card_model.specs.Fibres.{for_fibres, lowest}
use Rattle.card_model.specs.Calls as model
use Rattle.card_model.specs.Calls.{Answer, plain, kept, lost}
use Rattle.card_model.specs.State.{CardState, Readout}
use Rattle.card_model.specs.Readout.{record_of, lengths_of, event_length, most_events, exceeds, lacking, loss, with_event}
use Rattle.card_model.specs.Clock.{records_of, readout_after, completed_answer, completing, last_position, in_capture}
use Rattle.card_model.proofs.Fibres.{get_or_for, lowest_same, lowest_none, none_lowest}
use Rattle.card.specs.declared.capture.Capture.{Capture}
use Rattle.card.specs.declared.clocked.Loss.{Loss}
use Rattle.card.specs.declared.inner.Core.{Core}
use Rattle.card.specs.declared.row.Row.{Row}
use Rattle.card.specs.declared.waiting.Waiting.{Waiting}
use Rattle.card.specs.Abstraction.{watches_in, rows_in, columns_before, running, capture_in, state_of}
use Rattle.card.proofs.Clocking.{with_capture, is_last}
use Rattle.card.specs.Event.{exceeds_by, loss_by, FitsAll}
use Rattle.card.specs.Steps.{Leads, loss_in}
use Rattle.card.proofs.Fibres.{Upto, upto_here, lowest_some}

-- the loss by the lengths is the loss by the records
pub loss_as : (r : Readout) (event : List (List ℕ)) (lengths : List ℕ) → lengths ≡ lengths_of event
    → loss_by r.room r.lists (length r.events) lengths ≡ loss r event
unfolding loss_by loss lengths_of
loss_as r event lengths e =
    ap (λ (o : Option ℕ). cond (leb most_events (length r.events)) (Some model.too_many) (lacking o))
    (lowest_same (exceeds_by r.room r.lists lengths) (exceeds r event)
    (λ f h.
    ap (ltb (r.room - level_of r.lists f))
    (ap (λ (ls : List ℕ). get_or ls f 0) e ∙ get_or_for (λ g. length (record_of event g)) f 0 h)))

module _ (room : ℕ) (lists : List (List ℕ)) (events : ℕ) (lengths : List ℕ) where
  pub loss_many : 255 ≤ events → Some model.too_many ≡ loss_by room lists events lengths
  unfolding loss_by
  loss_many h = sym (cond-true (leb most_events events) (Some model.too_many) (lacking (lowest (exceeds_by room lists lengths))) (le-leb 255 events h))

  loss_few : events < 255 → loss_by room lists events lengths ≡ lacking (lowest (exceeds_by room lists lengths))
  unfolding loss_by
  loss_few h = cond-false (leb most_events events) (Some model.too_many) (lacking (lowest (exceeds_by room lists lengths))) (lt-leb 255 events h)

  pub loss_room : (f : ℕ) → events < 255 → f < 12 → room - level_of lists f < get_or lengths f 0
      → ((k : ℕ) → k < f → exceeds_by room lists lengths k ≡ false) → Some (model.no_room f) ≡ loss_by room lists events lengths
  loss_room f few below over none =
      sym (loss_few few ∙ ap lacking (sym (lowest_some (exceeds_by room lists lengths) f below (lt-ltb (room - level_of lists f) (get_or lengths f 0) over) none)))

  pub loss_none : (i : ℕ) → events < 255 → 12 ≤ i → ((k : ℕ) → k < i → exceeds_by room lists lengths k ≡ false)
      → None ≡ loss_by room lists events lengths
  loss_none i few all none =
      sym (loss_few few ∙ ap lacking (lowest_none (exceeds_by room lists lengths) (λ f h. none f (omega arith))))

  -- an event that is not lost finds room
  none_lacks : (o : Option ℕ) → lacking o ≡ None → o ≡ None
  none_lacks None e = refl
  none_lacks (Some f) e = let z : ◌≡◌ {A = ℕ} 0 1 = cc in absurd (omega arith)

  pub not_lost_few : None ≡ loss_by room lists events lengths → events < 255
  unfolding loss_by
  not_lost_few e = by (leb most_events events) refl e
    where
      by : (b : Bool) → leb most_events events ≡ b → None ≡ cond b (Some model.too_many) (lacking (lowest (exceeds_by room lists lengths))) → events < 255
      by true q w = let z : ◌≡◌ {A = ℕ} 0 1 = cc in absurd (omega arith)
      by false q w = leb-false 255 events q

  pub not_lost_fits : ((f : ℕ) → level_of lists f ≤ room) → None ≡ loss_by room lists events lengths → FitsAll room lists lengths
  not_lost_fits within e f h =
      let few = not_lost_few e in
      let none : lowest (exceeds_by room lists lengths) ≡ None = none_lacks (lowest (exceeds_by room lists lengths)) (sym (e ∙ loss_few few)) in
      let free : get_or lengths f 0 ≤ room - level_of lists f =
      ltb-false (room - level_of lists f) (get_or lengths f 0) (none_lowest (exceeds_by room lists lengths) none f h)
      in
      omega (arith, within f)

module _ (before records : List (List ℕ)) where
  -- what waits on a fibre with its record behind it
  abbrev pub put_by : ℕ → List ℕ
  put_by f = waiting before f ++ record_of records f

  -- a record that fits is put
  pub put_goes : (room : ℕ) (lists : List (List ℕ)) (i : ℕ) (bytes d : List ℕ) → i < 12 → length records ≡ 12 → FitsAll room before (lengths_of records)
      → Upto put_by [] before i lists → bytes ≡ get_or records i d
      → put_questions room (level_of lists i) i (length bytes) ≡ Ok tt
  unfolding lengths_of
  put_goes room lists i bytes d below many fits inv are =
      let same : level_of lists i ≡ level_of before i = ap length (upto_here put_by [] before i lists below inv) in
      let long : length bytes ≡ get_or (lengths_of records) i 0 =
      ap length (are ∙ get_or_default records i d [] (omega arith)) ∙ sym (get_or_for (λ f. length (record_of records f)) i 0 below)
      in
      put_may room (level_of lists i) i (length bytes) below (omega (arith, fits i below))

-- a core with another queue
abbrev pub with_waiting : Core → Waiting → Core
with_waiting core waiting =
    record {
      settings = core.settings;
      tickers = core.tickers;
      capture = core.capture;
      rows = core.rows;
      waiting = waiting;
      slip_out = core.slip_out;
    }

module _ (core : Core) (lists : List (List ℕ)) (room : ℕ) (event : List (List ℕ)) (lengths : List ℕ) where
  loses : lengths ≡ lengths_of event → loss_by room lists (length core.waiting) lengths ≡ loss (state_of core lists room).readout event
  unfolding state_of
  loses e = loss_as (state_of core lists room).readout event lengths e

  pub event_lost : (l : Loss) → core.capture ≡ None → lengths ≡ lengths_of event
      → Some (loss_in l) ≡ loss_by room lists (length core.waiting) lengths
      → Leads (completing (state_of core lists room) (watches_in core.tickers) event) (state_of core lists room) (plain (lost (loss_in l)))
  unfolding state_of completing
  event_lost l idle long is =
      let r = (state_of core lists room).readout in
      let why : Some (loss_in l) ≡ loss r event = is ∙ loses long in
      record {
        state =
            ap₂ (λ (k : _) (x : Readout). record { settings = core.settings; watches = watches_in core.tickers; capture = k; readout = x })
            (ap (capture_in (rows_in core.rows)) idle) (ap (readout_after r event) why);
        says = ap (completed_answer event) why;
      }

  pub event_kept : (after : Waiting) (lists' : List (List ℕ)) (room' n : ℕ) → core.capture ≡ None → lengths ≡ lengths_of event
      → None ≡ loss_by room lists (length core.waiting) lengths
      → lists' ≡ for_fibres (λ f. waiting lists f ++ record_of event f) → room' ≡ room
      → after ≡ core.waiting ++ lengths ∷ [] → n ≡ event_length lengths
      → Leads (completing (state_of core lists room) (watches_in core.tickers) event) (state_of (with_waiting core after) lists' room') (kept n)
  unfolding state_of completing with_event
  event_kept after lists' room' n idle long is put same behind total_is =
      let r = (state_of core lists room).readout in
      let why : None ≡ loss r event = is ∙ loses long in
      let readout : (state_of (with_waiting core after) lists' room').readout ≡ with_event r event =
      ap₂ (λ (ls : List (List ℕ)) (m : ℕ). record { lists = ls; room = m; events = after; slip_out = core.slip_out }) put same
      ∙ ap (λ (q : List (List ℕ)).
      record { lists = for_fibres (λ f. waiting lists f ++ record_of event f); room = room; events = q; slip_out = core.slip_out })
      (behind ∙ ap (λ (ls : List ℕ). core.waiting ++ ls ∷ []) long)
      in
      record {
        state =
            ap₂ (λ (k : _) (x : Readout). record { settings = core.settings; watches = watches_in core.tickers; capture = k; readout = x })
            (ap (capture_in (rows_in core.rows)) idle) (readout ∙ ap (readout_after r event) why);
        says = ap kept (total_is ∙ ap event_length long) ∙ ap (completed_answer event) why;
      }

module _ (meaning : Meaning) (core : Core) (lists : List (List ℕ)) (room : ℕ) (samples : List ℕ) (then : CardState) (answer : Answer) where
  pub completed_as : (rows : List Row) (event : List (List ℕ)) → event ≡ records_of meaning core.settings (columns_before (rows_in rows) 280)
      → columns_before (rows_in rows) 280 ≡ columns_before (rows_in core.rows) 279 ++ samples ∷ []
      → Leads (completing (state_of (with_capture core None rows) lists room) (watches_in core.tickers) event) then answer
      → Leads
      (completing (state_of core lists room) (watches_in core.tickers)
      (records_of meaning core.settings (columns_before (rows_in core.rows) 279 ++ samples ∷ [])))
      then answer
  unfolding state_of completing
  completed_as rows event is columns leads =
      subst (λ (e : List (List ℕ)). Leads (completing (state_of core lists room) (watches_in core.tickers) e) then answer)
      (is ∙ ap (records_of meaning core.settings) columns)
      (record { state = leads.state; says = leads.says })

  pub last_leads : (capture : Capture) → capture.position ≡ 279
      → Leads
      (completing (state_of core lists room) (watches_in core.tickers)
      (records_of meaning core.settings (columns_before (rows_in core.rows) 279 ++ samples ∷ [])))
      then answer
      → Leads
      (in_capture (eqb capture.position last_position) meaning (state_of core lists room) (watches_in core.tickers)
      (running (rows_in core.rows) capture) samples)
      then answer
  unfolding state_of
  last_leads capture here leads =
      is_last meaning (state_of core lists room) (watches_in core.tickers) (running (rows_in core.rows) capture) samples then answer here
      (subst
      (λ (p : ℕ).
      Leads
      (completing (state_of core lists room) (watches_in core.tickers)
      (records_of meaning core.settings (columns_before (rows_in core.rows) p ++ samples ∷ [])))
      then answer)
      (sym here) leads)
