use Rattle.std.proofs.Common.{◌≡◌, [], length}
use Rattle.strips.specs.Fibre.{numbers}
use Rattle.card.specs.Abstraction.{rows_in}
use Rattle.card.proofs.Fibres.{Upto}
use Rattle.card.proofs.Columns.{set_row}
use Rattle.card.proofs.column.set_column.Given as goal

abbrev pub invariant-loop-f : goal.invariant-loop-f
invariant-loop-f l =
    (length l.rows ≡ 12) × Upto (set_row l.initial.rows l.place (numbers l.samples)) [] (rows_in l.initial.rows) l.f (rows_in l.rows)
