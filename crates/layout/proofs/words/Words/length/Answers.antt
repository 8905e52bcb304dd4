use Rattle.std.proofs.Common.{arith}
use Rattle.layout.specs.Lengths.{words_length}
use Rattle.layout.proofs.words.Words.length.Goals as goal

pub returns : goal.returns
returns c = omega (arith, words_length c.args.self.now.list)
