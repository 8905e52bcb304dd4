-- What a card holds.
-- Assumes nothing.
use Rattle.std.specs.Prelude.{ℕ, Bool, false, List, [], None, Option, slice_index_or}
use Rattle.stores.specs.Store.{empty_lists}
use Rattle.settings.specs.declared.card.CardSettings.{CardSettings}
use Rattle.settings.specs.Settings.{fresh_card}
use Rattle.ticker.specs.declared.header.FrameHeader.{FrameHeader}
use Rattle.ticker.specs.declared.state.State.{State}
use Rattle.ticker.specs.declared.state.State.TheVariants.{Off}
use Rattle.ticker.specs.Step.{blank}
use Rattle.card_model.specs.Fibres.{for_fibres}

-- the ticker of a fibre: its state, and the header of its latest frame
pub record Watch : Type 0 where
  pub state : State
  pub header : FrameHeader

-- a ticker that is off
unfoldable pub off : Watch
off = record { state = Off; header = blank }

-- the ticker of one fibre
abbrev pub watch_of : List Watch → ℕ → Watch
watch_of watches f = slice_index_or watches f off

-- a capture that runs: the position of the coming Clock, which fibres pulsed as it began, and the captured samples,
-- a column of one for each fibre, in place order
pub record Capture : Type 0 where
  pub position : ℕ
  pub in_step : List Bool
  pub columns : List (List ℕ)

-- the readout: the store's lists of bytes and their capacity, the events that wait, oldest first, each as the lengths of
-- its twelve records, and whether a slip is out
pub record Readout : Type 0 where
  pub lists : List (List ℕ)
  pub room : ℕ
  pub events : List (List ℕ)
  pub slip_out : Bool

pub record CardState : Type 0 where
  pub settings : CardSettings
  pub watches : List Watch
  pub capture : Option Capture
  pub readout : Readout

-- a readout in which nothing waits
abbrev pub empty : ℕ → Readout
empty room = record { lists = empty_lists; room = room; events = []; slip_out = false }

-- a card just made over a store of a capacity
unfoldable pub fresh : ℕ → CardState
fresh room = record { settings = fresh_card; watches = for_fibres (λ f. off); capture = None; readout = empty room }
