use Rattle.std.proofs.Common.{◌≡◌, length, None}
use Rattle.reader.proofs.Surveys.{Walking}
use Rattle.reader.proofs.stored.survey_run.Given as goal

abbrev pub invariant-loop-left : goal.invariant-loop-left
invariant-loop-left l = Walking l.run l.left l.survey.events l.survey.end × (l.survey.fault ≡ None)

abbrev pub decreases-loop-left : goal.decreases-loop-left
decreases-loop-left l = length l.left
