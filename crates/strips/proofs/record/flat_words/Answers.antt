use Rattle.std.proofs.Common.{ap, ◌∙◌}
use Rattle.layout.specs.Event.{words}
use Rattle.strips.proofs.Forming.{taken, taken_is}
use Rattle.strips.proofs.record.flat_words.Goals as goal

pub unwrap-requires : goal.unwrap-requires
unwrap-requires c = taken c.new.result _ _ c.new.ensures c.flat_values.result.ten_bits

pub returns : goal.returns
returns c = taken_is _ c.unwrap.result _ _ c.new.ensures c.unwrap.ensures ∙ ap words c.flat_values.ensures
