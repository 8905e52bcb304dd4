use Rattle.card_model.proofs.Assembly.{events_of_the_layout}
use Rattle.card_model.proofs.laws.events_of_the_layout.Goals as goal

pub returns : goal.returns
returns c = events_of_the_layout
