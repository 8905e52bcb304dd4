use Rattle.std.proofs.Common.{◌≡◌, length, replicate}
use Rattle.card_model.specs.Readout.{record_of}
use Rattle.card.proofs.Fibres.{Upto}
use Rattle.card.proofs.forming.lengths_of.Given as goal

abbrev pub invariant-loop-f : goal.invariant-loop-f
invariant-loop-f l = (length l.lengths ≡ 12) × Upto (λ f. length (record_of l.records f)) 0 (replicate 12 0) l.f l.lengths
