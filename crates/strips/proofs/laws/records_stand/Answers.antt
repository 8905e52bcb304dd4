use Rattle.clusters.proofs.Spacing.{clusters_in_place}
use Rattle.strips.proofs.FormedRecords.{records_of_the_layout}
use Rattle.strips.proofs.ShiftedRecords.{shifts_records}
use Rattle.strips.proofs.laws.records_stand.Goals as goal

pub returns : goal.returns
returns c = record { layout = records_of_the_layout clusters_in_place; shift = shifts_records }
