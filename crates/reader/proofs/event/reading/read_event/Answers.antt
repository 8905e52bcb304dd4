use Rattle.std.proofs.lemmas.Result.{err_from_is_err_and}
use Rattle.std.proofs.lemmas.Bool.{eqb-false}
use Rattle.std.proofs.Common.{sym}
use Rattle.reader.proofs.Fronts.{left_over, rejected}
use Rattle.reader.proofs.event.reading.read_event.Goals as goal

pub returns-in_err-event : goal.returns-in_err-event
returns-in_err-event c =
    let p = err_from_is_err_and c.from_residual.result c.from_residual.ensures.1 in
    rw (p.1, p.2) (rejected _ _ c.in_err-event.ensures)

pub returns-else-is_empty : goal.returns-else-is_empty
returns-else-is_empty c = left_over _ _ _ c.in_ok-event.ensures (eqb-false _ 0 (sym c.if-is_empty.ensures))
