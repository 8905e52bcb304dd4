use Rattle.std.proofs.Common.{◌∙◌, arith}
use Rattle.std.proofs.lemmas.List.{length-set}
use Rattle.strips.specs.Fibre.{numbers}
use Rattle.card.proofs.Columns.{set_more, set_all, length_numbers, number_at}
use Rattle.card.proofs.column.set_column.Goals as goal

pub loop-f-preserved : goal.loop-f-preserved
loop-f-preserved c =
    let inv = c.loop-f.invariant in (
      length-set c.loop-f.rows c.loop-f.f _ ∙ inv.0,
      set_more c.args.rows.now c.args.place (numbers c.args.samples.now) c.loop-f.rows c.loop-f.f _ _ _ (omega arith) inv.0 inv.1
          c.set.ensures (number_at c.args.samples.now c.loop-f.f _ (omega arith)),
    )

pub returns : goal.returns
returns c =
    set_all c.args.rows.now c.args.place (numbers c.args.samples.now) c.loop-f.rows c.loop-f.f (omega arith) (omega arith) c.loop-f.invariant.0
    (length_numbers c.args.samples.now ∙ omega arith) c.requires c.loop-f.invariant.1
