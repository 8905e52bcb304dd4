use Rattle.std.proofs.Common.{[]}
use Rattle.card_model.proofs.Assembly.{three_laws}
use Rattle.card.proofs.card.Card.new.Goals as goal

pub returns-clause-laws : goal.returns-clause-laws
returns-clause-laws g c = three_laws _ _ (g.met.S.Store.sound c.args.store).limit (g.met.R.Rule.bounded c.args.rule) []
