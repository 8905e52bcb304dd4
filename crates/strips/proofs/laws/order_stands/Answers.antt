use Rattle.strips.proofs.OrderTable.{one_to_one}
use Rattle.strips.proofs.laws.order_stands.Goals as goal

pub returns : goal.returns
returns c = one_to_one
