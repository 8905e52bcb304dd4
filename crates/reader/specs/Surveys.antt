-- What a survey says of a stored run.
-- Assumes nothing.
use Rattle.std.specs.Prelude.{◌≡◌, ℕ, List, length, take, drop, Some, None, Err}
use Rattle.layout.specs.Event.{Event}
use Rattle.faults.specs.declared.fault.EventFault.{EventFault}
use Rattle.reader.specs.declared.stored.Survey.{Survey}
use Rattle.reader.specs.Laws.{RunOf}
use Rattle.reader.specs.Questions.{survey, read_first}

pub record Surveyed (bs : List ℕ) (s : Survey) : Type 0 where
  -- the events before the end or the damage
  pub events : List Event
  pub walk : survey 0 0 bs ≡ record { events = events; end = s.end; fault = s.fault }
  pub count : s.events ≡ length events
  pub front : RunOf (take s.end bs) events
  -- without a fault the whole run is these events
  pub whole : s.fault ≡ None → RunOf bs events
  -- a run of events is read as these events, without a fault
  pub every : (es : List Event) → RunOf bs es → (s.fault ≡ None) × (events ≡ es)
  -- a fault is that of what follows the events before it
  pub damaged : (f : EventFault) → s.fault ≡ Some f → read_first (drop s.end bs) ≡ Err f
