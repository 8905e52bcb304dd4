use Rattle.card_model.proofs.Assembly.{twin_law}
use Rattle.card_model.proofs.laws.twins_answer_alike.Goals as goal

pub returns : goal.returns
returns c = twin_law
