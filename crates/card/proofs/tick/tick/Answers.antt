use Rattle.std.proofs.Common.{◌∙◌, arith}
use Rattle.std.proofs.lemmas.List.{length-set}
use Rattle.strips.specs.Fibre.{numbers}
use Rattle.card.proofs.Columns.{number_at}
use Rattle.card.proofs.Ticking.{ticked_more, pulsed_more, ticked_all, pulsed_all}
use Rattle.card.proofs.tick.tick.Goals as goal

pub loop-f-preserved : goal.loop-f-preserved
loop-f-preserved c =
    let inv = c.loop-f.invariant in
    let number = c.value.ensures ∙ number_at c.args.samples.now c.loop-f.f _ (omega arith) in (
      length-set c.loop-f.tickers c.loop-f.f _ ∙ inv.0,
      length-set c.loop-f.pulses c.loop-f.f _ ∙ inv.1,
      ticked_more c.args.settings.now c.args.tickers.now (numbers c.args.samples.now) c.loop-f.tickers c.loop-f.f _ _ _ _
          (omega arith) inv.0 (omega arith) inv.2 _ number c.level-level.ensures c.step.ensures.state c.step.ensures.header,
      pulsed_more c.args.settings.now c.args.tickers.now (numbers c.args.samples.now) c.loop-f.tickers c.loop-f.pulses _ c.loop-f.f _ _ _ _
          (omega arith) inv.0 inv.1 (omega arith) inv.2 inv.3 _ number c.level-level.ensures c.step.ensures.pulse,
    )

pub returns-clause-watches : goal.returns-clause-watches
returns-clause-watches c =
    ticked_all c.args.settings.now c.args.tickers.now (numbers c.args.samples.now) c.loop-f.tickers c.loop-f.f (omega arith) c.loop-f.invariant.0
    c.loop-f.invariant.2

pub returns-clause-pulses : goal.returns-clause-pulses
returns-clause-pulses c =
    pulsed_all c.args.settings.now c.args.tickers.now (numbers c.args.samples.now) c.loop-f.pulses _ c.loop-f.f (omega arith) c.loop-f.invariant.1
    c.loop-f.invariant.3
