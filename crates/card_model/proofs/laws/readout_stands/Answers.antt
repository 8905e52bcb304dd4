use Rattle.card_model.proofs.Waiting.{readout_laws}
use Rattle.card_model.proofs.laws.readout_stands.Goals as goal

pub returns : goal.returns
returns c = readout_laws
