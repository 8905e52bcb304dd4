use Rattle.std.proofs.Common.{◌≡◌, ℕ, ◌+◌, length, sym, subst, arith}
use Rattle.std.proofs.lemmas.Bool.{eqb-true, eqb-false}
use Rattle.reader.proofs.Surveys.{Walking, walk_more, walked, broken}
use Rattle.reader.proofs.stored.survey_run.Goals as goal

pub loop-left-preserved : goal.loop-left-preserved
loop-left-preserved c =
    let m = walk_more _ _ _ _ _ _ c.loop-left.invariant.0 c.in-Ok.ensures in
    (subst (λ (n : ℕ). Walking c.args.run.now c.in-Ok.rest.now (c.loop-left.survey.events + 1) (c.loop-left.survey.end + n)) (sym c.size.ensures) m.0, c.loop-left.invariant.1)

pub returns-in-Err : goal.returns-in-Err
returns-in-Err c =
    let some : (length c.loop-left.left.now ≡ 0) → ⊥ = eqb-false _ 0 (sym c.loop-left-test.ensures) in
    broken _ _ _ _ _ c.loop-left.invariant.0 (omega arith) c.in-Err.ensures

pub returns : goal.returns
returns c = rw c.loop-left.invariant.1 (walked _ _ _ _ c.loop-left.invariant.0 (eqb-true _ 0 (sym c.loop-left-test.ensures)))
