use Rattle.strips.proofs.ExampleValues.{examples}
use Rattle.strips.proofs.laws.examples_stand.Goals as goal

pub returns : goal.returns
returns c = examples
