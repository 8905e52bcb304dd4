use Rattle.std.proofs.Common.{ap}
use Rattle.card.proofs.CardLaws.{laws_of}
use Rattle.card.proofs.Carrying.{run_out}
use Rattle.card.proofs.run.run_calls.Goals as goal

pub returns-clause-run : goal.returns-clause-run
returns-clause-run g c = run_out _ _ _ _ _ _ _ _ _ _ _ (ap g.R.Rule.meaning c.new-card.ensures.rule) c.new-card.ensures.state c.carry_out.ensures.run

pub returns-clause-laws : goal.returns-clause-laws
returns-clause-laws g c = laws_of _ (g.met.R.Rule.bounded c.args.rule) c.shifts.ensures _ (g.met.S.Store.sound c.args.store).limit _
