use Rattle.strips.specs.Fibre.{numbers}
use Rattle.card.proofs.Losing.{last_leads}
use Rattle.card.proofs.inner.Core.go_on.Goals as goal

pub returns-then-capture-eq-LAST : goal.returns-then-capture-eq-LAST
returns-then-capture-eq-LAST g c =
    last_leads _ c.args.self.now _ _ (numbers c.args.samples.now) _ _ c.args.capture c.if-capture-eq-LAST.true c.complete.ensures
