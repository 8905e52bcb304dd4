use Rattle.std.proofs.Common.{◌≡◌, drop}
use Rattle.synch.specs.Packed.{packed}
use Rattle.synch.specs.Vote.{header_bit, bits}
use Rattle.synch.proofs.majority.majority_header.Given as goal

abbrev pub invariant-loop-place : goal.invariant-loop-place
invariant-loop-place l = l.header ≡ packed 2 (header_bit l.fibres) (drop l.place bits)
