-- What it means for a fibre to be in step while a capture runs.
-- Assumes nothing.
use Rattle.std.specs.Prelude.{◌≡◌, ℕ, ◌<◌, true, false, List, Some, None, Option, slice_index_or}
use Rattle.rules.specs.Rules.{Meaning}
use Rattle.ticker.specs.declared.state.State.TheVariants.{Frame}
use Rattle.card_model.specs.Calls.{Call}
use Rattle.card_model.specs.State.{CardState, Capture, watch_of}
use Rattle.card_model.specs.Runs.{state_after}

-- each fibre in step is inside the frame that it began, at the position of the capture
abbrev pub InFrame : CardState → Option Capture → Type 0
InFrame s None = Unit {0}
InFrame s (Some c) = (f : ℕ) → f < 12 → slice_index_or c.in_step f false ≡ true → (watch_of s.watches f).state ≡ Frame c.position

-- so it is after every list of calls: what the ticker of a fibre in step hears as its header and error bits at positions 6 to 23
-- of its frame are the samples of positions 6 to 23 of the capture
abbrev pub StepsStay : Type 0
StepsStay = (meaning : Meaning) (room : ℕ) (calls : List Call) → InFrame (state_after meaning room calls) (state_after meaning room calls).capture
