use Rattle.card.proofs.Calls.{level_told}
use Rattle.card.proofs.CardLaws.{keeps_laws}
use Rattle.card.proofs.card.Card.level.Goals as goal

pub returns-clause-step : goal.returns-clause-step
returns-clause-step g c = rw (← c.self.view_is) (level_told _ _ _ _ _ _ c.level.ensures)

pub returns-clause-laws : goal.returns-clause-laws
returns-clause-laws g c = keeps_laws g.met.R.Rule.bounded g.S.Store g.met.S.Store.sound _ _ c.self.view_is _
