use Rattle.card_model.proofs.Balance.{bytes_balance}
use Rattle.card_model.proofs.laws.bytes_balance.Goals as goal

pub returns : goal.returns
returns c = bytes_balance
