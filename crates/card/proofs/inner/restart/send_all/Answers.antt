use Rattle.std.proofs.Common.{◌∙◌, arith}
use Rattle.std.proofs.lemmas.List.{length-set}
use Rattle.card.proofs.Restarting.{sent_more, sent_all}
use Rattle.card.proofs.inner.restart.send_all.Goals as goal

pub loop-f-preserved : goal.loop-f-preserved
loop-f-preserved c = (
  length-set c.loop-f.tickers c.loop-f.f _ ∙ c.loop-f.invariant.0,
  sent_more c.args.settings.now c.args.tickers.now c.loop-f.tickers c.loop-f.f _ _ _ (omega arith) c.loop-f.invariant.0 (omega arith)
      c.loop-f.invariant.1 c.send.ensures.state c.send.ensures.header,
)

pub returns : goal.returns
returns c =
    sent_all c.args.settings.now c.args.tickers.now c.loop-f.tickers c.loop-f.f (omega arith) c.loop-f.invariant.0 c.loop-f.invariant.1
