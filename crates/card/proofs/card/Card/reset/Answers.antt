use Rattle.card.proofs.Calls.{reset_out, was_reset_to}
use Rattle.card.proofs.CardLaws.{keeps_laws}
use Rattle.card.proofs.card.Card.reset.Goals as goal

pub returns-then-self-clause-step : goal.returns-then-self-clause-step
returns-then-self-clause-step g c = rw (← c.self.view_is) (reset_out _ _ _ _ c.if-self.true)

pub returns-then-self-clause-laws : goal.returns-then-self-clause-laws
returns-then-self-clause-laws g c = keeps_laws g.met.R.Rule.bounded g.S.Store g.met.S.Store.sound _ _ c.self.view_is _

pub returns-clause-step : goal.returns-clause-step
returns-clause-step g c =
    rw (← c.self.view_is) (was_reset_to _ _ _ _ _ _ _ c.if-self.false c.restart.ensures c.clear.ensures.lists c.clear.ensures.room)

pub returns-clause-laws : goal.returns-clause-laws
returns-clause-laws g c = keeps_laws g.met.R.Rule.bounded g.S.Store g.met.S.Store.sound _ _ c.self.view_is _
