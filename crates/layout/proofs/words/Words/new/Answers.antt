use Rattle.std.proofs.Common.{arith}
use Rattle.layout.specs.LimitsLemmas.{none_above, some_above}
use Rattle.layout.proofs.words.Words.new.Goals as goal

pub invariant_of-result-clause-ten_bits : goal.invariant_of-result-clause-ten_bits
invariant_of-result-clause-ten_bits c = none_above 1023 c.args.list (omega arith)

pub returns-else-largest-le-LARGEST : goal.returns-else-largest-le-LARGEST
returns-else-largest-le-LARGEST c = some_above 1023 c.args.list (omega arith)
