use Rattle.std.proofs.lemmas.Result.{err_from_is_err_and}
use Rattle.card.proofs.Clocking.{clock_refused, clock_sought, clock_captured, as_read}
use Rattle.card.proofs.CardLaws.{keeps_laws}
use Rattle.card.proofs.card.Card.clock.Goals as goal

pub returns-in_err-samples-clause-step : goal.returns-in_err-samples-clause-step
returns-in_err-samples-clause-step g c =
    let p = err_from_is_err_and c.from_residual.result c.from_residual.ensures.1 in
    rw (← c.self.view_is, p.1, p.2) (clock_refused _ _ _ _ _ _ c.in_err-samples.ensures.large)

pub returns-in_err-samples-clause-laws : goal.returns-in_err-samples-clause-laws
returns-in_err-samples-clause-laws g c = keeps_laws g.met.R.Rule.bounded g.S.Store g.met.S.Store.sound _ _ c.self.view_is _

pub returns-in-None-clause-step : goal.returns-in-None-clause-step
returns-in-None-clause-step g c =
    rw (← c.self.view_is)
    (as_read _ _ c.in_ok-samples.ensures.read _ _ _ _
    (λ fits.
    clock_sought _ c.self.inside.core _ _ _ _ _ _ fits c.in-None.is c.tick-pulses.ensures.watches c.tick-pulses.ensures.pulses
    (c.seek.ensures _ _)))

pub returns-in-None-clause-laws : goal.returns-in-None-clause-laws
returns-in-None-clause-laws g c = keeps_laws g.met.R.Rule.bounded g.S.Store g.met.S.Store.sound _ _ c.self.view_is _

pub returns-in-Some-clause-step : goal.returns-in-Some-clause-step
returns-in-Some-clause-step g c =
    rw (← c.self.view_is)
    (as_read _ _ c.in_ok-samples.ensures.read _ _ _ _
    (λ fits. clock_captured _ c.self.inside.core _ _ _ _ _ _ _ fits c.in-Some.is c.tick-pulses.ensures.watches c.go_on.ensures))

pub returns-in-Some-clause-laws : goal.returns-in-Some-clause-laws
returns-in-Some-clause-laws g c = keeps_laws g.met.R.Rule.bounded g.S.Store g.met.S.Store.sound _ _ c.self.view_is _
