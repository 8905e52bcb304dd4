use Rattle.std.proofs.Common.{◌≡◌, length}
use Rattle.card_model.specs.State.{off}
use Rattle.card.specs.Abstraction.{watches_in}
use Rattle.card.proofs.Fibres.{Upto}
use Rattle.card.proofs.Restarting.{sent_by}
use Rattle.card.proofs.inner.restart.send_all.Given as goal

abbrev pub invariant-loop-f : goal.invariant-loop-f
invariant-loop-f l =
    (length l.tickers ≡ 12)
    × Upto (sent_by l.settings l.initial.tickers) off (watches_in l.initial.tickers) l.f (watches_in l.tickers)
