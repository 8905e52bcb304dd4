use Rattle.card.proofs.Columns.{ReadUpto}
use Rattle.card.proofs.samples.read_samples.Given as goal

abbrev pub invariant-loop-f : goal.invariant-loop-f
invariant-loop-f l = ReadUpto l.samples l.f l.read
