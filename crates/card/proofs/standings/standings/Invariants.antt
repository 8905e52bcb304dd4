use Rattle.std.proofs.Common.{◌≡◌, length}
use Rattle.card.proofs.Fibres.{Upto}
use Rattle.card.proofs.Ticking.{stands}
use Rattle.card.proofs.standings.standings.Given as goal

abbrev pub invariant-loop-f : goal.invariant-loop-f
invariant-loop-f l =
    (length l.fibre-items ≡ 12)
    × Upto (stands l.settings l.tickers l.in_step) (stands l.settings l.tickers l.in_step 0) l.initial.fibre-items l.f l.fibre-items
