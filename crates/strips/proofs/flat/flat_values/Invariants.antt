use Rattle.std.proofs.Common.{◌≡◌, length}
use Rattle.strips.specs.Fibre.{numbers, flat_value}
use Rattle.strips.proofs.Scattering.{Filled}
use Rattle.strips.proofs.flat.flat_values.Given as goal

-- each strip whose place has passed has its flat value
abbrev pub invariant-loop-place : goal.invariant-loop-place
invariant-loop-place l = (length l.flats ≡ 256) × Filled (flat_value l.settings (numbers l.samples)) l.flats l.place
