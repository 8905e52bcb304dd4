use Rattle.card_model.proofs.InFrames.{steps_stay}
use Rattle.card_model.proofs.laws.fibres_stay_in_step.Goals as goal

pub returns : goal.returns
returns c = steps_stay
