use Rattle.reader.proofs.EventLaws.{comes_back, exactly_in_front, exactly_the_layout}
use Rattle.reader.proofs.laws.layout_stands.Goals as goal

pub returns : goal.returns
returns c = record { exactly = exactly_the_layout; front = exactly_in_front; back = comes_back }
