-- What twelve samples do to a card.
-- Assumes nothing.
use Rattle.std.specs.Prelude.{ℕ, ◌+◌, Bool, false, cond, List, [], ◌∷◌, ◌++◌, map, Some, None, Option, ◌==◌, nat_le, nat_lt, slice_index, slice_index_or}
use Rattle.rules.specs.Rules.{Meaning}
use Rattle.settings.specs.declared.card.CardSettings.{CardSettings}
use Rattle.settings.specs.declared.fibre.FibreSettings.{FibreSettings}
use Rattle.settings.specs.Settings.{of_fibre}
use Rattle.ticker.specs.Step.{is_one, next, pulses, heard, in_lock}
use Rattle.synch.specs.declared.standing.Standing.{Standing}
use Rattle.synch.specs.Vote.{event, majority_header}
use Rattle.synch.specs.Status.{status_word}
use Rattle.strips.specs.Fibre.{fibre_record}
use Rattle.card_model.specs.Fibres.{for_fibres, lowest}
use Rattle.card_model.specs.Calls.{Answer, kept, plain, Plain, quiet, synch, lost, Loss}
use Rattle.card_model.specs.State.{Watch, watch_of, Capture, Readout, CardState}
use Rattle.card_model.specs.Readout.{lengths_of, event_length, loss, with_event}

-- what a call leads to: the card after it, and the answer
pub record Outcome : Type 0 where
  pub next_card : CardState
  pub answer : Answer

-- the lowest fibre whose sample is above 1023, if there is one
unfoldable pub too_large : List ℕ → Option ℕ
too_large samples = lowest (λ f. nat_lt 1023 (slice_index samples f))

-- the level of a fibre's sample: a 1 or a 0
abbrev pub level_in : FibreSettings → ℕ → Bool
level_in fibre sample = is_one sample fibre.threshold

-- a ticker after a sample
abbrev pub ticked : FibreSettings → ℕ → Watch → Watch
ticked fibre sample w =
    record {
      state = next fibre.enable w.state (level_in fibre sample);
      header = heard fibre.enable w.state (level_in fibre sample) w.header;
    }

-- the tickers after a Clock
unfoldable pub watches_after : CardSettings → List Watch → List ℕ → List Watch
watches_after settings watches samples = for_fibres (λ f. ticked (of_fibre settings f) (slice_index samples f) (watch_of watches f))

-- which fibres pulse with a Clock
unfoldable pub pulses_with : CardSettings → List Watch → List ℕ → List Bool
pulses_with settings watches samples =
    for_fibres (λ f. pulses (of_fibre settings f).enable (watch_of watches f).state (level_in (of_fibre settings f) (slice_index samples f)))

-- how the fibres stand, some of them in step
unfoldable pub standings : CardSettings → List Watch → List Bool → List Standing
standings settings watches in_step =
    for_fibres
    (λ f.
    record {
      enable = (of_fibre settings f).enable;
      in_lock = in_lock (watch_of watches f).state;
      in_step = slice_index_or in_step f false;
      header = (watch_of watches f).header;
    })

-- the positions of a capture: its first, the last of its header, the first and the last of its samples
abbrev pub first_position : ℕ
first_position = 6

abbrev pub synch_position : ℕ
synch_position = 23

abbrev pub first_sample : ℕ
first_sample = 24

abbrev pub last_position : ℕ
last_position = 279

-- no capture runs: one begins if the fibres that pulse are a majority
abbrev pub begun : List Bool → Bool → Option Capture
begun in_step begins = cond begins (Some (record { position = first_position; in_step = in_step; columns = [] })) None

unfoldable pub sought : CardState → List Watch → List Bool → Outcome
sought s watches in_step =
    record {
      next_card =
          record {
            settings = s.settings;
            watches = watches;
            capture = begun in_step (event (standings s.settings watches in_step));
            readout = s.readout;
          };
      answer = plain quiet;
    }

-- the header that the fibres in step vote for, and the twelve status words beside it
abbrev pub synch_of : List Standing → Plain
synch_of fibres = synch (majority_header fibres) (map (status_word (majority_header fibres)) fibres)

-- what a Clock within a capture is answered
unfoldable pub within_answer : ℕ → List Standing → Plain
within_answer position fibres = cond (position == synch_position) (synch_of fibres) quiet

-- a capture after a Clock that is not its last
abbrev pub advanced : Capture → List ℕ → Capture
advanced c samples =
    record {
      position = c.position + 1;
      in_step = c.in_step;
      columns = cond (nat_le first_sample c.position) (c.columns ++ samples ∷ []) c.columns;
    }

unfoldable pub within : CardState → List Watch → Capture → List ℕ → Outcome
within s watches c samples =
    record {
      next_card = record { settings = s.settings; watches = watches; capture = Some (advanced c samples); readout = s.readout };
      answer = plain (within_answer c.position (standings s.settings watches c.in_step));
    }

-- the captured samples of one fibre, in place order
abbrev pub row : List (List ℕ) → ℕ → List ℕ
row columns f = map (λ column. slice_index column f) columns

-- the twelve records of an event
unfoldable pub records_of : Meaning → CardSettings → List (List ℕ) → List (List ℕ)
records_of meaning settings columns =
    for_fibres (λ f. fibre_record meaning f (of_fibre settings f) settings.mode (row columns f))

-- a completed event is lost, or it is kept
abbrev pub readout_after : Readout → List (List ℕ) → Option Loss → Readout
readout_after r records (Some l) = r
readout_after r records None = with_event r records

abbrev pub completed_answer : List (List ℕ) → Option Loss → Answer
completed_answer records (Some l) = plain (lost l)
completed_answer records None = kept (event_length (lengths_of records))

-- the last Clock of a capture completes an event, out of its records
unfoldable pub completing : CardState → List Watch → List (List ℕ) → Outcome
completing s watches records =
    record {
      next_card =
          record {
            settings = s.settings;
            watches = watches;
            capture = None;
            readout = readout_after s.readout records (loss s.readout records);
          };
      answer = completed_answer records (loss s.readout records);
    }

-- all columns of a capture, with that of its last Clock
abbrev pub all_columns : Capture → List ℕ → List (List ℕ)
all_columns c samples = c.columns ++ samples ∷ []

-- a Clock within a capture, its last or not
abbrev pub in_capture : Bool → Meaning → CardState → List Watch → Capture → List ℕ → Outcome
in_capture last meaning s watches c samples =
    cond last (completing s watches (records_of meaning s.settings (all_columns c samples))) (within s watches c samples)

-- a Clock that is carried out, with a capture that runs or without
abbrev pub clocked : Meaning → CardState → List ℕ → Option Capture → Outcome
clocked meaning s samples None =
    sought s (watches_after s.settings s.watches samples) (pulses_with s.settings s.watches samples)
clocked meaning s samples (Some c) =
    in_capture (c.position == last_position) meaning s (watches_after s.settings s.watches samples) c samples
