-- What each call does to a card, in every state, and what it answers.
-- Assumes nothing.
use Rattle.std.specs.Prelude.{ℕ, true, false, cond, List, [], ◌∷◌, Some, None, Ok, Err, Option, Result, nat_le, nat_lt, slice_set}
use Rattle.terms.specs.declared.enable.Enable.{Enable}
use Rattle.terms.specs.declared.refusal.Refusal.{Refusal}
use Rattle.terms.specs.declared.refusal.Refusal.TheVariants.{CaptureRunning, NoSuchFibre, SampleTooLarge, SlipOut, NothingWaiting, NoSlipOut, BufferTooShort}
use Rattle.rules.specs.Rules.{Meaning}
use Rattle.stores.specs.Store.{level_of}
use Rattle.settings.specs.declared.card.CardSettings.{CardSettings}
use Rattle.settings.specs.declared.setting.Setting.{Setting}
use Rattle.settings.specs.declared.setting.Setting.TheVariants as settings
use Rattle.settings.specs.Settings.{applied, of_fibre}
use Rattle.settings.specs.Words.{decoded}
use Rattle.ticker.specs.Step.{sent}
use Rattle.card_model.specs.Fibres.{for_fibres}
use Rattle.card_model.specs.Calls.{Call, load, clock, ask, fetch, give_back, level, reset, fetched, was_reset, plain, Plain, taken, refused, slip, given_back, level_is}
use Rattle.card_model.specs.State.{Watch, watch_of, Capture, Readout, CardState, empty}
use Rattle.card_model.specs.Readout.{event_length, oldest_lengths, oldest_bytes, without_event, with_slip}
use Rattle.card_model.specs.Clock.{Outcome, too_large, clocked}

-- a call that changes nothing
abbrev pub unchanged : CardState → Plain → Outcome
unchanged s answer = record { next_card = s; answer = plain answer }

abbrev pub refusing : CardState → Refusal → Outcome
refusing s e = unchanged s (refused e)

-- a card with another readout
abbrev pub with_readout : CardState → Readout → CardState
with_readout s r = record { settings = s.settings; watches = s.watches; capture = s.capture; readout = r }

-- a ticker that is sent to Off or Hunt by its enable
abbrev pub sent_off : Enable → Watch → Watch
sent_off enable w = record { state = sent enable; header = w.header }

-- the tickers once a setting is carried out: a word of kind 2 sends its fibre's
abbrev pub watches_by : Setting → List Watch → List Watch
watches_by (settings.Mode mode) ws = ws
watches_by (settings.Tick fibre enable complement threshold) ws =
    slice_set ws fibre.index (sent_off enable (watch_of ws fibre.index))
watches_by (settings.Pedestal fibre strip valid pedestal) ws = ws
watches_by (settings.Thresholds fibre strip thresholds) ws = ws
watches_by (settings.Rank fibre side rank) ws = ws

-- Load: is no capture running? 1. Then the questions of setting words
abbrev pub loaded : CardState → Result Setting Refusal → Outcome
loaded s (Ok setting) =
    record {
      next_card =
          record {
            settings = applied setting s.settings;
            watches = watches_by setting s.watches;
            capture = s.capture;
            readout = s.readout;
          };
      answer = plain taken;
    }
loaded s (Err e) = refusing s e

abbrev pub load_in : Option Capture → CardState → ℕ → Outcome
load_in None s word = loaded s (decoded word)
load_in (Some c) s word = refusing s CaptureRunning

unfoldable pub load_step : CardState → ℕ → Outcome
load_step s word = load_in s.capture s word

-- Clock: are all samples up to 1023? 7, with the lowest fibre whose sample is not
abbrev pub clock_asked : Option ℕ → Meaning → CardState → List ℕ → Outcome
clock_asked None meaning s samples = clocked meaning s samples s.capture
clock_asked (Some f) meaning s samples = refusing s (SampleTooLarge f)

unfoldable pub clock_step : Meaning → CardState → List ℕ → Outcome
clock_step meaning s samples = clock_asked (too_large samples) meaning s samples

-- Ask: is no slip out? 8. Does an event wait? 9
abbrev pub slip_given : CardState → List ℕ → Outcome
slip_given s lengths =
    record { next_card = with_readout s (with_slip true s.readout); answer = plain (slip (event_length lengths)) }

abbrev pub ask_waiting : List (List ℕ) → CardState → Outcome
ask_waiting [] s = refusing s NothingWaiting
ask_waiting (lengths ∷ later) s = slip_given s lengths

unfoldable pub ask_step : CardState → Outcome
ask_step s = cond s.readout.slip_out (refusing s SlipOut) (ask_waiting s.readout.events s)

-- Fetch: is a slip out? 10. Is the buffer long enough? 11, with the event's length
abbrev pub fetching : CardState → Outcome
fetching s = record { next_card = with_readout s (without_event s.readout); answer = fetched (oldest_bytes s.readout) }

abbrev pub fetch_asked : ℕ → CardState → ℕ → Outcome
fetch_asked long s buffer = cond (nat_le long buffer) (fetching s) (refusing s (BufferTooShort long))

unfoldable pub fetch_step : CardState → ℕ → Outcome
fetch_step s buffer = cond s.readout.slip_out (fetch_asked (event_length (oldest_lengths s.readout)) s buffer) (refusing s NoSlipOut)

-- Give back: is a slip out? 10
abbrev pub giving_back : CardState → Outcome
giving_back s = record { next_card = with_readout s (with_slip false s.readout); answer = plain given_back }

unfoldable pub give_back_step : CardState → Outcome
give_back_step s = cond s.readout.slip_out (giving_back s) (refusing s NoSlipOut)

-- Level: is the fibre one of the twelve? 3
unfoldable pub level_step : CardState → ℕ → Outcome
level_step s f = cond (nat_lt f 12) (unchanged s (level_is (level_of s.readout.lists f))) (refusing s NoSuchFibre)

-- every ticker sent to Off or Hunt by its enable
unfoldable pub all_sent : CardSettings → List Watch → List Watch
all_sent settings watches = for_fibres (λ f. sent_off (of_fibre settings f).enable (watch_of watches f))

-- Reset: is no slip out? 8
abbrev pub resetting : CardState → Outcome
resetting s =
    record {
      next_card =
          record {
            settings = s.settings;
            watches = all_sent s.settings s.watches;
            capture = None;
            readout = empty s.readout.room;
          };
      answer = was_reset;
    }

unfoldable pub reset_step : CardState → Outcome
reset_step s = cond s.readout.slip_out (refusing s SlipOut) (resetting s)

-- a call
abbrev pub step : Meaning → CardState → Call → Outcome
step meaning s (load word) = load_step s word
step meaning s (clock samples) = clock_step meaning s samples
step meaning s ask = ask_step s
step meaning s (fetch buffer) = fetch_step s buffer
step meaning s give_back = give_back_step s
step meaning s (level f) = level_step s f
step meaning s reset = reset_step s
