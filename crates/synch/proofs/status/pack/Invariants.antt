use Rattle.std.proofs.Common.{◌≡◌}
use Rattle.synch.specs.Status.{status_word}
use Rattle.synch.proofs.Packed.{so_far}
use Rattle.synch.proofs.status.pack.Given as goal

abbrev pub invariant-loop-fibre : goal.invariant-loop-fibre
invariant-loop-fibre l = l.word ≡ so_far 64 (status_word l.header) l.yielded
