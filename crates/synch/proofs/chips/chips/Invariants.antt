use Rattle.std.proofs.Common.{◌≡◌}
use Rattle.synch.specs.Vote.{chip_bits}
use Rattle.synch.proofs.Packed.{so_far}
use Rattle.synch.proofs.chips.chips.Given as goal

abbrev pub invariant-loop-fibre : goal.invariant-loop-fibre
invariant-loop-fibre l = l.word ≡ so_far 4 (chip_bits l.question) l.yielded
