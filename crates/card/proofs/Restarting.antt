-- A card that starts, or starts afresh.
-- Assumes nothing.
use Rattle.std.proofs.Common.{◌≡◌, ℕ, ◌+◌, ◌<◌, ◌≤◌, Bool, false, List, [], length, get_or, set, replicate, None, Option, sym, ap, ◌∙◌, subst, ap₂, arith}
use Rattle.std.proofs.lemmas.List.{length-map, get_or_default}
use Rattle.settings.specs.declared.card.CardSettings.{CardSettings}
use Rattle.settings.specs.declared.fibre.FibreSettings.{FibreSettings}
use Rattle.settings.specs.Settings.{fresh_card, no_fibre, of_fibre}
use Rattle.stores.specs.Store.{empty_lists}
use Rattle.ticker.specs.declared.header.FrameHeader.{FrameHeader}
use Rattle.ticker.specs.declared.state.State.{State}
use Rattle.ticker.specs.declared.state.State.TheVariants.{Off}
use Rattle.ticker.specs.declared.ticker.Ticker.{Ticker}
use Rattle.ticker.specs.Step.{sent, blank}
use Rattle.card_model.specs.Fibres.{for_fibres}
use Rattle.card_model.specs.State as model
use Rattle.card_model.specs.State.{Watch, watch_of, off, fresh}
use Rattle.card_model.specs.Step.{sent_off, all_sent, resetting}
use Rattle.card.specs.declared.inner.Core.{Core}
use Rattle.card.specs.declared.waiting.Waiting.{Waiting}
use Rattle.card.specs.Abstraction.{watch_in, watches_in, rows_in, capture_in, state_of}
use Rattle.card.proofs.Fibres.{Upto, upto_here, upto_more, upto_all}
use Rattle.card.proofs.Loading.{watches_set, sent_as}

pub length_watches : (tickers : List Ticker) → length (watches_in tickers) ≡ length tickers
unfolding watches_in
length_watches tickers = length-map tickers watch_in

module _ (settings : CardSettings) (before : List Ticker) where
  abbrev pub sent_by : ℕ → Watch
  sent_by f = sent_off (of_fibre settings f).enable (watch_of (watches_in before) f)

  pub sent_more : (tickers : List Ticker) (i : ℕ) (d new : Ticker) (e : FibreSettings) → i < 12 → length tickers ≡ 12
      → length settings.fibres ≡ 12 → Upto sent_by off (watches_in before) i (watches_in tickers)
      → new.state ≡ sent (get_or settings.fibres i e).enable → new.header ≡ (get_or tickers i d).header
      → Upto sent_by off (watches_in before) (i + 1) (watches_in (set tickers i new))
  sent_more tickers i d new e below long longs inv state header =
      let fibre : get_or settings.fibres i e ≡ of_fibre settings i = get_or_default settings.fibres i e no_fibre (omega arith) in
      let was : watch_of (watches_in tickers) i ≡ watch_of (watches_in before) i = upto_here sent_by off (watches_in before) i (watches_in tickers) below inv in
      let here : watch_in new ≡ sent_by i =
      sent_as tickers i d new (get_or settings.fibres i e).enable (omega arith) state header
      ∙ ap₂ (λ (x : FibreSettings) (w : Watch). sent_off x.enable w) fibre was
      in
      subst (Upto sent_by off (watches_in before) (i + 1)) (sym (watches_set tickers i new))
      (upto_more sent_by off (watches_in before) i (watches_in tickers) (watch_in new) below (length_watches tickers ∙ long) inv here)

  pub sent_all : (tickers : List Ticker) (i : ℕ) → 12 ≤ i → length tickers ≡ 12 → Upto sent_by off (watches_in before) i (watches_in tickers)
      → watches_in tickers ≡ all_sent settings (watches_in before)
  unfolding all_sent
  sent_all tickers i all long inv = upto_all sent_by off (watches_in before) i (watches_in tickers) all (length_watches tickers ∙ long) inv

-- a core with tickers and a queue, and no capture
abbrev pub restarted : Core → List Ticker → Waiting → Core
restarted core tickers waiting =
    record {
      settings = core.settings;
      tickers = tickers;
      capture = None;
      rows = core.rows;
      waiting = waiting;
      slip_out = core.slip_out;
    }

pub restarted_as : (core : Core) (tickers : List Ticker) (waiting : Waiting) → core.slip_out ≡ false
    → watches_in tickers ≡ all_sent core.settings (watches_in core.tickers) → waiting ≡ []
    → (lists : List (List ℕ)) (room : ℕ)
    → state_of (restarted core tickers waiting) empty_lists room ≡ (resetting (state_of core lists room)).next_card
unfolding state_of
restarted_as core tickers waiting out ws none lists room =
    ap (λ (w : List Watch).
    record {
      settings = core.settings;
      watches = w;
      capture = None;
      readout = record { lists = empty_lists; room = room; events = waiting; slip_out = core.slip_out };
    }) ws
    ∙ ap₂ (λ (q : List (List ℕ)) (b : Bool).
    record {
      settings = core.settings;
      watches = all_sent core.settings (watches_in core.tickers);
      capture = None;
      readout = record { lists = empty_lists; room = room; events = q; slip_out = b };
    }) none out

pub fresh_as : (core : Core) (t : Ticker) → core.settings ≡ fresh_card → core.tickers ≡ replicate 12 t → t.state ≡ Off → t.header ≡ blank
    → core.capture ≡ None → core.waiting ≡ [] → core.slip_out ≡ false
    → (room : ℕ) → state_of core empty_lists room ≡ fresh room
unfolding state_of fresh off for_fibres watches_in
fresh_as core t settings tickers state header idle none out room =
    let each : watch_in t ≡ off = ap₂ (λ (s : State) (h : FrameHeader). record { state = s; header = h }) state header in
    let watches : watches_in core.tickers ≡ for_fibres (λ f. off) = ap watches_in tickers ∙ ap (λ (w : Watch). replicate 12 w) each in
    let capture : capture_in (rows_in core.rows) core.capture ≡ None = ap (capture_in (rows_in core.rows)) idle in
    ap₂ (λ (s : CardSettings) (ws : List Watch).
    record { settings = s; watches = ws; capture = capture_in (rows_in core.rows) core.capture; readout = (state_of core empty_lists room).readout })
    settings watches
    ∙ (ap (λ (k : Option model.Capture).
    record { settings = fresh_card; watches = for_fibres (λ f. off); capture = k; readout = (state_of core empty_lists room).readout }) capture
    ∙ ap₂ (λ (q : List (List ℕ)) (b : Bool).
    record {
      settings = fresh_card;
      watches = for_fibres (λ f. off);
      capture = None;
      readout = record { lists = empty_lists; room = room; events = q; slip_out = b };
    }) none out)
