use Rattle.std.proofs.Common.{◌≡◌, false, length, replicate}
use Rattle.strips.specs.Fibre.{numbers}
use Rattle.card_model.specs.State.{off}
use Rattle.card.specs.Abstraction.{watches_in}
use Rattle.card.proofs.Fibres.{Upto}
use Rattle.card.proofs.Ticking.{ticked_by, pulsed_by}
use Rattle.card.proofs.tick.tick.Given as goal

abbrev pub invariant-loop-f : goal.invariant-loop-f
invariant-loop-f l =
    (length l.tickers ≡ 12) × (length l.pulses ≡ 12)
    × Upto (ticked_by l.settings l.initial.tickers (numbers l.samples)) off (watches_in l.initial.tickers) l.f (watches_in l.tickers)
    × Upto (pulsed_by l.settings l.initial.tickers (numbers l.samples)) false (replicate 12 false) l.f l.pulses
