use Rattle.std.proofs.Common.{◌∙◌, arith}
use Rattle.card.proofs.Fibres.{sum_of_lengths}
use Rattle.card.proofs.lengths.event_length.Goals as goal

pub returns : goal.returns
returns c = c.total.ensures ∙ sum_of_lengths c.args.lengths.now (omega arith)
