-- A Clock without a capture, and one within a capture.
-- Assumes nothing.
use Rattle.std.proofs.Common.{◌≡◌, ℕ, ◌+◌, Bool, true, false, cond, eqb, leb, List, [], ◌∷◌, ◌++◌, map, Some, None, Option, sym, ap, ◌∙◌, subst, ap₂}
use Rattle.std.proofs.lemmas.Bool.{cond-true, cond-false, eq-eqb, ne_eqb}
use Rattle.terms.specs.declared.refusal.Refusal.{Refusal}
use Rattle.terms.specs.declared.refusal.Refusal.TheVariants.{SampleTooLarge}
use Rattle.rules.specs.Rules.{Meaning}
use Rattle.ticker.specs.declared.ticker.Ticker.{Ticker}
use Rattle.synch.specs.declared.standing.Standing.{Standing}
use Rattle.synch.specs.Vote.{event, majority_header}
use Rattle.synch.specs.Status.{status_word}
use Rattle.strips.specs.declared.sample.Sample.{Sample}
use Rattle.strips.specs.Fibre.{numbers}
use Rattle.card_model.specs.Calls.{clock, Answer, plain, quiet, synch, refused}
use Rattle.card_model.specs.State as model
use Rattle.card_model.specs.State.{CardState, Watch}
use Rattle.card_model.specs.Clock.{Outcome, too_large, watches_after, pulses_with, standings, begun, sought, synch_of, within_answer, within, first_sample, synch_position, last_position, records_of, all_columns, completing, in_capture, clocked}
use Rattle.card_model.specs.Step.{refusing, clock_asked, clock_step}
use Rattle.card.specs.declared.capture.Capture.{Capture}
use Rattle.card.specs.declared.inner.Core.{Core}
use Rattle.card.specs.declared.row.Row.{Row}
use Rattle.card.specs.Abstraction.{watches_in, rows_in, columns_before, running, capture_in, state_of}
use Rattle.card.specs.Samples.{IsReadAs, IsTooLarge}
use Rattle.card.specs.Steps.{Stepped, Leads}
use Rattle.card.proofs.Calls.{stepped}
use Rattle.card.proofs.Loading.{with_settings}

-- a core with another capture and other rows
abbrev pub with_capture : Core → Option Capture → List Row → Core
with_capture core capture rows =
    record {
      settings = core.settings;
      tickers = core.tickers;
      capture = capture;
      rows = rows;
      waiting = core.waiting;
      slip_out = core.slip_out;
    }

module _ (core : Core) (in_step : List Bool) where
  pub sought_as : (capture : Option Capture)
      → capture_in (rows_in core.rows) capture ≡ begun in_step (event (standings core.settings (watches_in core.tickers) in_step))
      → (lists : List (List ℕ)) (room : ℕ)
      → state_of (with_capture core capture core.rows) lists room ≡ (sought (state_of core lists room) (watches_in core.tickers) in_step).next_card
  unfolding state_of sought
  sought_as capture e lists room =
      ap (λ (k : Option model.Capture).
      record { settings = core.settings; watches = watches_in core.tickers; capture = k; readout = (state_of core lists room).readout }) e

  pub none_sought : core.capture ≡ None → event (standings core.settings (watches_in core.tickers) in_step) ≡ false
      → (lists : List (List ℕ)) (room : ℕ)
      → state_of core lists room ≡ (sought (state_of core lists room) (watches_in core.tickers) in_step).next_card
  none_sought idle none = sought_as core.capture (ap (capture_in (rows_in core.rows)) idle ∙ sym (ap (begun in_step) none))

  pub begins : (capture : Capture) → capture.position ≡ 6 → capture.in_step ≡ in_step
      → event (standings core.settings (watches_in core.tickers) in_step) ≡ true
      → (lists : List (List ℕ)) (room : ℕ)
      → state_of (with_capture core (Some capture) core.rows) lists room
      ≡ (sought (state_of core lists room) (watches_in core.tickers) in_step).next_card
  unfolding columns_before
  begins capture at flags begun_now =
      sought_as (Some capture)
      (ap₂ (λ (p : ℕ) (b : List Bool). Some (record { position = p; in_step = b; columns = columns_before (rows_in core.rows) p })) at flags
      ∙ sym (ap (begun in_step) begun_now))

-- the answer within a capture
pub within_quiet : (position : ℕ) (fibres : List Standing) → (position ≡ 23 → ⊥) → plain quiet ≡ plain (within_answer position fibres)
unfolding within_answer
within_quiet position fibres other = ap plain (sym (cond-false (eqb position synch_position) (synch_of fibres) quiet (ne_eqb position 23 other)))

pub within_synch : (position : ℕ) (fibres fibres' : List Standing) (header : ℕ) (words : List ℕ) → position ≡ 23 → fibres ≡ fibres'
    → header ≡ majority_header fibres → words ≡ map (status_word (majority_header fibres)) fibres
    → plain (synch header words) ≡ plain (within_answer position fibres')
unfolding within_answer
within_synch position fibres fibres' header words here same h w =
    ap₂ (λ (m : ℕ) (ws : List ℕ). plain (synch m ws)) h w
    ∙ (ap (λ (xs : List Standing). plain (synch_of xs)) same
    ∙ ap plain (sym (cond-true (eqb position synch_position) (synch_of fibres') quiet (eq-eqb position 23 here))))

pub advanced_as : (core : Core) (capture new : Capture) (rows : List Row) (samples : List ℕ) (answer : Answer)
    → new.position ≡ capture.position + 1 → new.in_step ≡ capture.in_step
    → columns_before (rows_in rows) (capture.position + 1)
    ≡ cond (leb first_sample capture.position) (columns_before (rows_in core.rows) capture.position ++ samples ∷ [])
    (columns_before (rows_in core.rows) capture.position)
    → answer ≡ plain (within_answer capture.position (standings core.settings (watches_in core.tickers) capture.in_step))
    → (lists : List (List ℕ)) (room : ℕ)
    → Leads (within (state_of core lists room) (watches_in core.tickers) (running (rows_in core.rows) capture) samples)
    (state_of (with_capture core (Some new) rows) lists room) answer
unfolding state_of within
advanced_as core capture new rows samples answer at flags columns says lists room =
    record {
      state =
          ap (λ (k : model.Capture).
          record { settings = core.settings; watches = watches_in core.tickers; capture = Some k; readout = (state_of core lists room).readout })
          (ap₂ (λ (p : ℕ) (b : List Bool). record { position = p; in_step = b; columns = columns_before (rows_in rows) p }) at flags
          ∙ ap (λ (cs : List (List ℕ)). record { position = capture.position + 1; in_step = capture.in_step; columns = cs }) columns);
      says = says;
    }

module _ (meaning : Meaning) (core : Core) (lists : List (List ℕ)) (room : ℕ) (samples : List ℕ) where
  clock_refused_at : (f : ℕ) → Some f ≡ too_large samples
      → Stepped meaning (state_of core lists room) (clock samples) (state_of core lists room) (plain (refused (SampleTooLarge f)))
  unfolding clock_step
  clock_refused_at f e =
      stepped meaning (state_of core lists room) (clock samples) (refusing (state_of core lists room) (SampleTooLarge f))
      (sym (ap (λ (o : Option ℕ). clock_asked o meaning (state_of core lists room) samples) e))

  pub clock_refused : (e : Refusal) → IsTooLarge samples e
      → Stepped meaning (state_of core lists room) (clock samples) (state_of core lists room) (plain (refused e))
  clock_refused e h =
      subst (λ (x : Refusal). Stepped meaning (state_of core lists room) (clock samples) (state_of core lists room) (plain (refused x))) (sym h.says)
      (clock_refused_at h.fibre h.lowest)

  carried : too_large samples ≡ None
      → clock_step meaning (state_of core lists room) samples ≡ clocked meaning (state_of core lists room) samples (state_of core lists room).capture
  unfolding clock_step
  carried fits = ap (λ (o : Option ℕ). clock_asked o meaning (state_of core lists room) samples) fits

  pub clock_sought : (tickers : List Ticker) (in_step : List Bool) (then : CardState) → too_large samples ≡ None → core.capture ≡ None
      → watches_in tickers ≡ watches_after core.settings (watches_in core.tickers) samples
      → in_step ≡ pulses_with core.settings (watches_in core.tickers) samples
      → then ≡ (sought (state_of (with_settings core core.settings tickers) lists room) (watches_in tickers) in_step).next_card
      → Stepped meaning (state_of core lists room) (clock samples) then (plain quiet)
  unfolding state_of sought
  clock_sought tickers in_step then fits idle watches flags is =
      let s = state_of core lists room in
      let outcome : clock_step meaning s samples
      ≡ sought s (watches_after core.settings (watches_in core.tickers) samples) (pulses_with core.settings (watches_in core.tickers) samples)
      = carried fits ∙ ap (λ (o : Option Capture). clocked meaning s samples (capture_in (rows_in core.rows) o)) idle
      in
      subst (λ (x : CardState). Stepped meaning s (clock samples) x (plain quiet))
      (sym (is ∙ ap₂ (λ (ws : List Watch) (bs : List Bool). (sought s ws bs).next_card) watches flags))
      (stepped meaning s (clock samples)
      (sought s (watches_after core.settings (watches_in core.tickers) samples) (pulses_with core.settings (watches_in core.tickers) samples))
      outcome)

  pub clock_captured : (tickers : List Ticker) (capture : Capture) (then : CardState) (answer : Answer) → too_large samples ≡ None → core.capture ≡ Some capture
      → watches_in tickers ≡ watches_after core.settings (watches_in core.tickers) samples
      → Leads
      (in_capture (eqb capture.position last_position) meaning (state_of (with_settings core core.settings tickers) lists room) (watches_in tickers)
      (running (rows_in core.rows) capture) samples)
      then answer
      → Stepped meaning (state_of core lists room) (clock samples) then answer
  unfolding state_of within completing
  clock_captured tickers capture then answer fits runs watches leads =
      let s = state_of core lists room in
      let outcome : clock_step meaning s samples
      ≡ in_capture (eqb capture.position last_position) meaning s (watches_after core.settings (watches_in core.tickers) samples)
      (running (rows_in core.rows) capture) samples
      = carried fits ∙ ap (λ (o : Option Capture). clocked meaning s samples (capture_in (rows_in core.rows) o)) runs
      in
      let whole : in_capture (eqb capture.position last_position) meaning (state_of (with_settings core core.settings tickers) lists room)
      (watches_in tickers) (running (rows_in core.rows) capture) samples
      ≡ clock_step meaning s samples
      = ap (λ (ws : List Watch). in_capture (eqb capture.position last_position) meaning s ws (running (rows_in core.rows) capture) samples) watches
      ∙ sym outcome
      in
      record {
        state = leads.state ∙ ap (λ (o : Outcome). o.next_card) whole;
        says = leads.says ∙ ap (λ (o : Outcome). o.answer) whole;
      }

-- a Clock by the samples that are read
pub as_read : (samples : List ℕ) (read : List Sample) → IsReadAs samples read → (meaning : Meaning) (s then : CardState) (answer : Answer)
    → (too_large (numbers read) ≡ None → Stepped meaning s (clock (numbers read)) then answer) → Stepped meaning s (clock samples) then answer
as_read samples read is meaning s then answer step =
    subst (λ (xs : List ℕ). Stepped meaning s (clock xs) then answer) is.same
    (step (subst (λ (xs : List ℕ). too_large xs ≡ None) (sym is.same) is.fits))

pub is_last : (meaning : Meaning) (s : CardState) (ws : List Watch) (capture : model.Capture) (samples : List ℕ) (then : CardState) (answer : Answer)
    → capture.position ≡ 279 → Leads (completing s ws (records_of meaning s.settings (all_columns capture samples))) then answer
    → Leads (in_capture (eqb capture.position last_position) meaning s ws capture samples) then answer
is_last meaning s ws capture samples then answer here leads =
    let e = cond-true (eqb capture.position last_position) (completing s ws (records_of meaning s.settings (all_columns capture samples)))
    (within s ws capture samples) (eq-eqb capture.position 279 here)
    in
    subst (λ (o : Outcome). Leads o then answer) (sym e) leads
