-- The three laws together, out of what is known of the records.
-- Assumes nothing.
use Rattle.clusters.proofs.Spacing.{clusters_in_place}
use Rattle.strips.specs.Laws.{RecordsOfTheLayout}
use Rattle.strips.proofs.FormedRecords.{records_of_the_layout}
use Rattle.strips.proofs.ShiftedRecords.{shifts_records}
use Rattle.card_model.specs.Laws.{EarlyLaw, TwinLaw, ThreeLaws}
use Rattle.card_model.specs.Waiting.{EventsOfTheLayout}
use Rattle.card_model.proofs.Balance as balance
use Rattle.card_model.proofs.Early as early
use Rattle.card_model.proofs.TwinRuns as twins
use Rattle.card_model.proofs.Waiting as waiting

formed : RecordsOfTheLayout
formed = records_of_the_layout clusters_in_place

pub early_law : EarlyLaw
early_law meaning room small bounded calls = early.no_early_loss formed meaning bounded room small calls

pub twin_law : TwinLaw
twin_law = twins.twins_answer_alike shifts_records

pub events_of_the_layout : EventsOfTheLayout
events_of_the_layout = waiting.events_of_the_layout formed

pub three_laws : ThreeLaws
three_laws meaning room small bounded calls =
    record {
      twins_answer_alike = λ shifts. twin_law meaning room shifts calls;
      bytes_balance = balance.bytes_balance meaning room calls;
      no_early_loss = early_law meaning room small bounded calls;
    }
