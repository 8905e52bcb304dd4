use Rattle.std.proofs.Common.{sym, ap, ◌∙◌, arith}
use Rattle.settings.specs.declared.setting.Setting.{Setting}
use Rattle.card_model.specs.Step.{watches_by}
use Rattle.card.specs.Abstraction.{watches_in}
use Rattle.card.proofs.Loading.{sent_at, none_sent, loaded_as}
use Rattle.card.proofs.inner.Core.apply.Goals as goal

pub returns-in-Tick : goal.returns-in-Tick
returns-in-Tick c =
    loaded_as c.args.self.now c.args.setting _ _ c.apply.ensures
    (sent_at c.args.self.now.tickers _ c.in-Tick.fibre.index _ _ c.in-Tick.enable c.index.ensures (omega arith)
    c.send.ensures.state c.send.ensures.header
    ∙ sym (ap (λ (x : Setting). watches_by x (watches_in c.args.self.now.tickers)) c.in-Tick.is))

pub returns-in_default : goal.returns-in_default
returns-in_default c =
    loaded_as c.args.self.now c.args.setting _ _ c.apply.ensures
    (none_sent c.args.setting (watches_in c.args.self.now.tickers) c.in_default.not-Tick)
