-- What a card's memory stands for.
-- Assumes nothing.
use Rattle.std.specs.Prelude.{◌≡◌, ℕ, ◌-◌, Bool, List, [], map, Some, None, Option, slice_index, slice_index_or}
use Rattle.std.specs.List.{range_with_len}
use Rattle.terms.specs.declared.enable.Enable.{Enable}
use Rattle.ticker.specs.declared.ticker.Ticker.{Ticker}
use Rattle.stores.specs.declared.store.Store.{Ghosts}
use Rattle.ticker.specs.Step.{in_lock}
use Rattle.synch.specs.declared.standing.Standing.{Standing}
use Rattle.strips.specs.Fibre.{numbers}
use Rattle.card_model.specs.Fibres.{for_fibres}
use Rattle.card_model.specs.State as model
use Rattle.card_model.specs.Clock.{first_sample}
use Rattle.card.specs.declared.capture.Capture.{Capture}
use Rattle.card.specs.declared.inner.Core.{Core}
use Rattle.card.specs.declared.row.Row.{Row}

-- a ticker
abbrev pub watch_in : Ticker → model.Watch
watch_in t = record { state = t.state; header = t.header }

unfoldable pub watches_in : List Ticker → List model.Watch
watches_in tickers = map watch_in tickers

-- how a fibre stands by its enable and its ticker, in step or not
abbrev pub standing_as : Enable → model.Watch → Bool → Standing
standing_as enable w in_step = record { enable = enable; in_lock = in_lock w.state; in_step = in_step; header = w.header }

-- the captured samples of each fibre as numbers, in place order
unfoldable pub rows_in : List Row → List (List ℕ)
rows_in rows = map (λ r. numbers r.samples) rows

-- the sample of a fibre at a place
abbrev pub sample_at : List (List ℕ) → ℕ → ℕ → ℕ
sample_at rows place f = slice_index (slice_index_or rows f []) place

-- a column of samples, one of each fibre
unfoldable pub column_at : List (List ℕ) → ℕ → List ℕ
column_at rows place = for_fibres (sample_at rows place)

-- the columns that are captured before a position; none before the first sample's
unfoldable pub columns_before : List (List ℕ) → ℕ → List (List ℕ)
columns_before rows position = map (column_at rows) (range_with_len 0 (position - first_sample))

-- a capture that runs
abbrev pub running : List (List ℕ) → Capture → model.Capture
running rows c = record { position = c.position; in_step = c.in_step; columns = columns_before rows c.position }

abbrev pub capture_in : List (List ℕ) → Option Capture → Option model.Capture
capture_in rows None = None
capture_in rows (Some c) = Some (running rows c)

-- the state of a card whose store holds some lists of a capacity
unfoldable pub state_of : Core → List (List ℕ) → ℕ → model.CardState
state_of core lists room =
    record {
      settings = core.settings;
      watches = watches_in core.tickers;
      capture = capture_in (rows_in core.rows) core.capture;
      readout = record { lists = lists; room = room; events = core.waiting; slip_out = core.slip_out };
    }

-- the same over a store
abbrev pub state_in : {S : Type 0} → Ghosts S → Core → S → model.CardState
state_in s core store = state_of core (s.lists store) (s.room store)

-- whatever a store holds, the state of a card goes on by a change, as its memory does
abbrev pub StateGoes : (model.CardState → model.CardState) → Core → Core → Type 0
StateGoes change before after = (lists : List (List ℕ)) (room : ℕ) → state_of after lists room ≡ change (state_of before lists room)
