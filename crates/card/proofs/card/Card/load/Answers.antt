use Rattle.std.proofs.Common.{sym, ◌∙◌}
use Rattle.std.proofs.lemmas.Result.{err_from_is_err_and}
use Rattle.card.proofs.Loading.{some_of, none_of, load_running, load_refused, load_taken}
use Rattle.card.proofs.CardLaws.{keeps_laws}
use Rattle.card.proofs.card.Card.load.Goals as goal

pub returns-then-is_some-clause-step : goal.returns-then-is_some-clause-step
returns-then-is_some-clause-step g c =
    let runs = some_of c.self.inside.core.capture (sym c.is_some.ensures ∙ c.if-is_some.true) in
    rw (← c.self.view_is) (load_running _ _ _ _ _ runs.0 runs.1)

pub returns-then-is_some-clause-laws : goal.returns-then-is_some-clause-laws
returns-then-is_some-clause-laws g c = keeps_laws g.met.R.Rule.bounded g.S.Store g.met.S.Store.sound _ _ c.self.view_is _

pub returns-in_err-setting-clause-step : goal.returns-in_err-setting-clause-step
returns-in_err-setting-clause-step g c =
    let p = err_from_is_err_and c.from_residual.result c.from_residual.ensures.1 in
    let idle = none_of c.self.inside.core.capture (sym c.is_some.ensures ∙ c.if-is_some.false) in
    rw (← c.self.view_is, p.1, p.2) (load_refused _ _ _ _ _ _ idle c.in_err-setting.ensures.means)

pub returns-in_err-setting-clause-laws : goal.returns-in_err-setting-clause-laws
returns-in_err-setting-clause-laws g c = keeps_laws g.met.R.Rule.bounded g.S.Store g.met.S.Store.sound _ _ c.self.view_is _

pub returns-clause-step : goal.returns-clause-step
returns-clause-step g c =
    let idle = none_of c.self.inside.core.capture (sym c.is_some.ensures ∙ c.if-is_some.false) in
    rw (← c.self.view_is) (load_taken _ _ _ _ _ _ _ idle c.in_ok-setting.ensures.means (c.apply.ensures _ _))

pub returns-clause-laws : goal.returns-clause-laws
returns-clause-laws g c = keeps_laws g.met.R.Rule.bounded g.S.Store g.met.S.Store.sound _ _ c.self.view_is _
