use Rattle.std.proofs.Common.{arith}
use Rattle.card.proofs.Formed.{never_refused}
use Rattle.card.proofs.record.Record.form.Goals as goal

pub unwrap-length-requires : goal.unwrap-length-requires
unwrap-length-requires g c =
    never_refused (g.R.Rule.meaning c.args.rule.now) c.unwrap.result.index _ c.args.settings.now.mode c.args.row.now.samples
    c.self.inside.buffer _ _ (g.met.R.Rule.bounded c.args.rule.now) c.unwrap.result.below c.args.row.now.full (omega arith)
    c.write_fibre.ensures
