use Rattle.std.proofs.Common.{◌∙◌}
use Rattle.std.proofs.lemmas.Result.{err_from_is_err_and}
use Rattle.card.proofs.Calls.{asked_out, asked_refused, asked_given}
use Rattle.card.proofs.CardLaws.{keeps_laws}
use Rattle.card.proofs.card.Card.ask.Goals as goal

pub returns-then-self-clause-step : goal.returns-then-self-clause-step
returns-then-self-clause-step g c = rw (← c.self.view_is) (asked_out _ _ _ _ c.if-self.true)

pub returns-then-self-clause-laws : goal.returns-then-self-clause-laws
returns-then-self-clause-laws g c = keeps_laws g.met.R.Rule.bounded g.S.Store g.met.S.Store.sound _ _ c.self.view_is _

pub returns-in_err-lengths-clause-step : goal.returns-in_err-lengths-clause-step
returns-in_err-lengths-clause-step g c =
    let p = err_from_is_err_and c.from_residual.result c.from_residual.ensures.1 in
    rw (← c.self.view_is, p.1, p.2) (asked_refused _ _ _ _ c.front.result _ c.if-self.false c.front.ensures c.in_err-lengths.ensures.value)

pub returns-in_err-lengths-clause-laws : goal.returns-in_err-lengths-clause-laws
returns-in_err-lengths-clause-laws g c = keeps_laws g.met.R.Rule.bounded g.S.Store g.met.S.Store.sound _ _ c.self.view_is _

pub returns-clause-step : goal.returns-clause-step
returns-clause-step g c =
    rw (← c.self.view_is)
    (asked_given _ _ _ _ c.front.result _ _ c.if-self.false c.front.ensures c.in_ok-lengths.ensures.value
    (c.new.ensures.length ∙ c.event_length.ensures))

pub returns-clause-laws : goal.returns-clause-laws
returns-clause-laws g c = keeps_laws g.met.R.Rule.bounded g.S.Store g.met.S.Store.sound _ _ c.self.view_is _
