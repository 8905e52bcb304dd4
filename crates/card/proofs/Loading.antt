-- A setting carried out, as a step of the card.
-- Assumes nothing.
use Rattle.std.proofs.Common.{◌≡◌, ℕ, ◌<◌, Bool, true, false, List, length, get_or, set, Some, None, Ok, Err, Option, Result, sym, refl, ap, ◌∙◌, subst, ap₂}
use Rattle.std.specs.Option.{is_some}
use Rattle.std.proofs.lemmas.List.{map-set, get_or-map}
use Rattle.terms.specs.declared.enable.Enable.{Enable}
use Rattle.terms.specs.declared.fibre.Fibre.{Fibre}
use Rattle.terms.specs.declared.refusal.Refusal.{Refusal}
use Rattle.terms.specs.declared.refusal.Refusal.TheVariants.{CaptureRunning}
use Rattle.rules.specs.Rules.{Meaning}
use Rattle.stores.proofs.Lists.{impossible}
use Rattle.settings.specs.declared.card.CardSettings.{CardSettings}
use Rattle.settings.specs.declared.parts.TickThreshold.{TickThreshold}
use Rattle.settings.specs.declared.setting.Setting.{Setting}
use Rattle.settings.specs.declared.setting.Setting.TheVariants as settings
use Rattle.settings.specs.Settings.{applied}
use Rattle.settings.specs.Words.{decoded}
use Rattle.ticker.specs.declared.header.FrameHeader.{FrameHeader}
use Rattle.ticker.specs.declared.state.State.{State}
use Rattle.ticker.specs.declared.ticker.Ticker.{Ticker}
use Rattle.ticker.specs.Step.{sent}
use Rattle.card_model.specs.Calls.{load, plain, taken, refused}
use Rattle.card_model.specs.State.{CardState, Watch, watch_of, off}
use Rattle.card_model.specs.Step.{sent_off, watches_by, refusing, loaded, load_in, load_step}
use Rattle.card.specs.declared.capture.Capture.{Capture}
use Rattle.card.specs.declared.inner.Core.{Core}
use Rattle.card.specs.Abstraction.{watch_in, watches_in, rows_in, capture_in, state_of}
use Rattle.card.specs.Steps.{Stepped}
use Rattle.card.proofs.Calls.{stepped}

-- what is there, and what is not
pub some_of : {X : Type 0} (o : Option X) → is_some o ≡ true → (x : X) × (o ≡ Some x)
some_of None e = impossible (cc)
some_of (Some x) e = (x, refl)

pub none_of : {X : Type 0} (o : Option X) → is_some o ≡ false → o ≡ None
none_of None e = refl
none_of (Some x) e = impossible (cc)

-- the ticker of a fibre, out of the tickers
pub watch_at : (tickers : List Ticker) (f : ℕ) (d : Ticker) → f < length tickers → watch_of (watches_in tickers) f ≡ watch_in (get_or tickers f d)
unfolding watches_in
watch_at tickers f d h = get_or-map watch_in tickers f d off h

pub watches_set : (tickers : List Ticker) (f : ℕ) (t : Ticker) → watches_in (set tickers f t) ≡ set (watches_in tickers) f (watch_in t)
unfolding watches_in
watches_set tickers f t = map-set watch_in tickers f t

-- a ticker was sent to Off or Hunt
pub sent_as : (tickers : List Ticker) (i : ℕ) (d new : Ticker) (enable : Enable) → i < length tickers
    → new.state ≡ sent enable → new.header ≡ (get_or tickers i d).header
    → watch_in new ≡ sent_off enable (watch_of (watches_in tickers) i)
sent_as tickers i d new enable below state header =
    let w = watch_at tickers i d below in
    ap₂ (λ (s : State) (h : FrameHeader). record { state = s; header = h }) state (header ∙ sym (ap (λ (x : Watch). x.header) w))

pub sent_at : (tickers : List Ticker) (i f : ℕ) (d new : Ticker) (enable : Enable) → i ≡ f → i < length tickers
    → new.state ≡ sent enable → new.header ≡ (get_or tickers i d).header
    → watches_in (set tickers i new) ≡ set (watches_in tickers) f (sent_off enable (watch_of (watches_in tickers) f))
sent_at tickers i f d new enable same below state header =
    watches_set tickers i new
    ∙ (ap (set (watches_in tickers) i) (sent_as tickers i d new enable below state header)
    ∙ ap (λ (n : ℕ). set (watches_in tickers) n (sent_off enable (watch_of (watches_in tickers) n))) same)

-- a setting of another kind sends none
pub none_sent : (setting : Setting) (ws : List Watch)
    → ((f : Fibre) (e : Enable) (b : Bool) (t : TickThreshold) → setting ≡ settings.Tick f e b t → ⊥) → ws ≡ watches_by setting ws
none_sent (settings.Mode mode) ws other = refl
none_sent (settings.Tick fibre enable complement threshold) ws other = absurd (other fibre enable complement threshold refl)
none_sent (settings.Pedestal fibre strip valid pedestal) ws other = refl
none_sent (settings.Thresholds fibre strip thresholds) ws other = refl
none_sent (settings.Rank fibre side rank) ws other = refl

-- a core with other settings and tickers
abbrev pub with_settings : Core → CardSettings → List Ticker → Core
with_settings core s tickers =
    record {
      settings = s;
      tickers = tickers;
      capture = core.capture;
      rows = core.rows;
      waiting = core.waiting;
      slip_out = core.slip_out;
    }

pub loaded_as : (core : Core) (setting : Setting) (s : CardSettings) (tickers : List Ticker)
    → s ≡ applied setting core.settings → watches_in tickers ≡ watches_by setting (watches_in core.tickers)
    → (lists : List (List ℕ)) (room : ℕ)
    → state_of (with_settings core s tickers) lists room ≡ (loaded (state_of core lists room) (Ok setting)).next_card
unfolding state_of
loaded_as core setting s tickers e w lists room =
    ap₂ (λ (x : CardSettings) (ws : List Watch).
    record {
      settings = x;
      watches = ws;
      capture = capture_in (rows_in core.rows) core.capture;
      readout = (state_of core lists room).readout;
    }) e w

module _ (meaning : Meaning) (core : Core) (lists : List (List ℕ)) (room word : ℕ) where
  pub load_running : (k : Capture) → core.capture ≡ Some k
      → Stepped meaning (state_of core lists room) (load word) (state_of core lists room) (plain (refused CaptureRunning))
  unfolding state_of load_step
  load_running k e =
      stepped meaning (state_of core lists room) (load word) (refusing (state_of core lists room) CaptureRunning)
      (ap (λ (o : Option Capture). load_in (capture_in (rows_in core.rows) o) (state_of core lists room) word) e)

  loads : (r : Result Setting Refusal) → core.capture ≡ None → r ≡ decoded word
      → load_step (state_of core lists room) word ≡ loaded (state_of core lists room) r
  unfolding state_of load_step
  loads r idle e =
      ap (λ (o : Option Capture). load_in (capture_in (rows_in core.rows) o) (state_of core lists room) word) idle
      ∙ sym (ap (loaded (state_of core lists room)) e)

  pub load_refused : (e : Refusal) → core.capture ≡ None → Err e ≡ decoded word
      → Stepped meaning (state_of core lists room) (load word) (state_of core lists room) (plain (refused e))
  load_refused e idle bad =
      stepped meaning (state_of core lists room) (load word) (refusing (state_of core lists room) e) (loads (Err e) idle bad)

  pub load_taken : (setting : Setting) (after : CardState) → core.capture ≡ None → Ok setting ≡ decoded word
      → after ≡ (loaded (state_of core lists room) (Ok setting)).next_card
      → Stepped meaning (state_of core lists room) (load word) after (plain taken)
  load_taken setting after idle good same =
      subst (λ (x : CardState). Stepped meaning (state_of core lists room) (load word) x (plain taken)) (sym same)
      (stepped meaning (state_of core lists room) (load word) (loaded (state_of core lists room) (Ok setting)) (loads (Ok setting) idle good))
