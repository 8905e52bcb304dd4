use Rattle.card.proofs.Calls.{gave_back, gave_back_refused}
use Rattle.card.proofs.CardLaws.{keeps_laws}
use Rattle.card.proofs.card.Card.give_back.Goals as goal

pub returns-then-not-self-clause-step : goal.returns-then-not-self-clause-step
returns-then-not-self-clause-step g c = rw (← c.self.view_is) (gave_back_refused _ _ _ _ c.if-not-self.true)

pub returns-then-not-self-clause-laws : goal.returns-then-not-self-clause-laws
returns-then-not-self-clause-laws g c = keeps_laws g.met.R.Rule.bounded g.S.Store g.met.S.Store.sound _ _ c.self.view_is _

pub returns-clause-step : goal.returns-clause-step
returns-clause-step g c = rw (← c.self.view_is) (gave_back _ _ _ _ c.if-not-self.false)

pub returns-clause-laws : goal.returns-clause-laws
returns-clause-laws g c = keeps_laws g.met.R.Rule.bounded g.S.Store g.met.S.Store.sound _ _ c.self.view_is _
