use Rattle.std.proofs.Common.{refl, arith}
use Rattle.strips.specs.Fibre.{numbers}
use Rattle.card.specs.Abstraction.{rows_in}
use Rattle.card.proofs.Columns.{column_more, column_none}
use Rattle.card.proofs.column.capture_samples.Goals as goal

pub returns-then-position-ge-FIRST_SAMPLE : goal.returns-then-position-ge-FIRST_SAMPLE
returns-then-position-ge-FIRST_SAMPLE c =
    column_more (rows_in c.args.rows.now) _ (numbers c.args.samples.now) _ c.set_column.ensures c.args.position (omega arith) refl

pub returns-else-position-ge-FIRST_SAMPLE : goal.returns-else-position-ge-FIRST_SAMPLE
returns-else-position-ge-FIRST_SAMPLE c =
    column_none (rows_in c.args.rows.now) (numbers c.args.samples.now) c.args.position (omega arith)
