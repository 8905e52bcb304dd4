use Rattle.card_model.proofs.Assembly.{three_laws}
use Rattle.card_model.proofs.laws.three_laws.Goals as goal

pub returns : goal.returns
returns c = three_laws
