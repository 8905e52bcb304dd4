use Rattle.std.proofs.Common.{◌<◌, length, ap, ◌∙◌, arith}
use Rattle.card.proofs.CardLaws.{keeps_laws_list}
use Rattle.card.proofs.Carrying.{upto_next}
use Rattle.card.proofs.card.Card.carry_out.Goals as goal

pub returns-then-answers-calls-clause-laws : goal.returns-then-answers-calls-clause-laws
returns-then-answers-calls-clause-laws g c = keeps_laws_list g.met.R.Rule.bounded g.S.Store g.met.S.Store.sound _ _ c.self.view_is _

pub returns-in_err-lent_enough-clause-laws : goal.returns-in_err-lent_enough-clause-laws
returns-in_err-lent_enough-clause-laws g c = keeps_laws_list g.met.R.Rule.bounded g.S.Store g.met.S.Store.sound _ _ c.self.view_is _

pub loop-i-preserved : goal.loop-i-preserved
loop-i-preserved g c =
    let inside : c.loop-i.i < length c.loop-i.answers = omega arith in (
      c.answer.ensures.rule ∙ c.loop-i.invariant.0,
      upto_next _ _ _ _ _ c.loop-i.i c.loop-i.at _ c.loop-i.answers _ c.loop-i.invariant.1 _ (ap g.R.Rule.meaning c.loop-i.invariant.0) _ c.loop-i-test.true inside _ _ _ c.answer.ensures.step _ c.lent-at.ensures,
    )

pub returns-clause-laws : goal.returns-clause-laws
returns-clause-laws g c = keeps_laws_list g.met.R.Rule.bounded g.S.Store g.met.S.Store.sound _ _ c.self.view_is _
