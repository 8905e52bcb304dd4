use Rattle.card_model.proofs.Assembly.{early_law}
use Rattle.card_model.proofs.laws.no_early_loss.Goals as goal

pub returns : goal.returns
returns c = early_law
