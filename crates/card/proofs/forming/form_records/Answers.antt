use Rattle.std.proofs.Common.{◌∙◌, arith}
use Rattle.std.proofs.lemmas.List.{length-set}
use Rattle.card.proofs.Formed.{formed_more, formed_all}
use Rattle.card.proofs.forming.form_records.Goals as goal

pub loop-f-preserved : goal.loop-f-preserved
loop-f-preserved g c =
    let inv = c.loop-f.invariant in (
      length-set c.loop-f.records c.loop-f.f _ ∙ inv.0,
      formed_more _ _ c.args.rows.now _ c.loop-f.records c.loop-f.f _ _ (omega arith) inv.0 (omega arith) inv.1 c.form.ensures,
    )

pub returns : goal.returns
returns g c = formed_all _ _ c.args.rows.now _ c.loop-f.records c.loop-f.f (omega arith) c.loop-f.invariant.0 (omega arith) c.loop-f.invariant.1
