use Rattle.std.proofs.Common.{◌∙◌, arith}
use Rattle.std.proofs.lemmas.List.{length-set}
use Rattle.card.proofs.Ticking.{stands_more, stands_all}
use Rattle.card.proofs.standings.standings.Goals as goal

pub loop-f-preserved : goal.loop-f-preserved
loop-f-preserved c =
    let inv = c.loop-f.invariant in (
      length-set c.loop-f.fibre-items c.loop-f.f _ ∙ inv.0,
      stands_more c.args.settings.now c.args.tickers.now c.args.in_step.now c.loop-f.fibre-items _ c.loop-f.f _ _ _ _ _
          (omega arith) inv.0 (omega arith) (omega arith) (omega arith) inv.1 c.standing.ensures,
    )

pub returns : goal.returns
returns c =
    let inv = c.loop-f.invariant in
    stands_all c.args.settings.now c.args.tickers.now c.args.in_step.now c.loop-f.fibre-items _ c.loop-f.f _ (omega arith) inv.0 inv.1
