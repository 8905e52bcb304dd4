use Rattle.card.proofs.Clocking.{within_quiet, within_synch}
use Rattle.card.proofs.inner.Core.within.Goals as goal

pub returns-then-capture-ne-SYNCH : goal.returns-then-capture-ne-SYNCH
returns-then-capture-ne-SYNCH c = within_quiet c.args.capture.position _ c.if-capture-ne-SYNCH.true

pub returns : goal.returns
returns c =
    within_synch c.args.capture.position _ _ _ _ c.if-capture-ne-SYNCH.false c.standings-fibres.ensures c.of.ensures.header c.of.ensures.words
