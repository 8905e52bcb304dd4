use Rattle.layout.specs.Contents.{suppressed_content, words_content}
use Rattle.settings.specs.declared.mode.Mode.TheVariants as modes
use Rattle.strips.specs.Fibre.{numbers}
use Rattle.strips.proofs.Forming.{written_as}
use Rattle.strips.proofs.record.write_fibre.Goals as goal

pub returns-in-ZeroSuppression : goal.returns-in-ZeroSuppression
returns-in-ZeroSuppression g c =
    written_as (g.R.Rule.meaning c.args.rule.now) c.args.fibre.index c.args.settings.now c.args.mode modes.ZeroSuppression
    (numbers c.args.samples.now) (suppressed_content c.suppress.result) c.args.out.now c.write_record.new.out c.write_record.result
    c.in-ZeroSuppression.is c.suppress.ensures c.write_record.ensures

pub returns-in-ProcessedRaw : goal.returns-in-ProcessedRaw
returns-in-ProcessedRaw g c =
    written_as (g.R.Rule.meaning c.args.rule.now) c.args.fibre.index c.args.settings.now c.args.mode modes.ProcessedRaw
    (numbers c.args.samples.now) (words_content c.flat_words.result) c.args.out.now c.write_record-in-ProcessedRaw.new.out
    c.write_record-in-ProcessedRaw.result c.in-ProcessedRaw.is c.flat_words.ensures c.write_record-in-ProcessedRaw.ensures

pub returns-in-VirginRaw : goal.returns-in-VirginRaw
returns-in-VirginRaw g c =
    written_as (g.R.Rule.meaning c.args.rule.now) c.args.fibre.index c.args.settings.now c.args.mode modes.VirginRaw
    (numbers c.args.samples.now) (words_content c.sample_words.result) c.args.out.now c.write_record-in-VirginRaw.new.out
    c.write_record-in-VirginRaw.result c.in-VirginRaw.is c.sample_words.ensures c.write_record-in-VirginRaw.ensures
