-- The laws over runs of settings.
-- Assumes nothing.
use Rattle.settings.proofs.Staying.{stays_in_force, fresh_stays, stays_in_range}
use Rattle.settings.proofs.laws.settings_stay.Goals as goal

pub returns : goal.returns
returns c = record { in_force = stays_in_force; fresh = fresh_stays; in_range = stays_in_range }
