use Rattle.std.proofs.Common.{◌≡◌, ◌+◌, ◌*◌, ◌/◌, ◌<◌, ◌≤◌, length, Some, ap, sym, ◌∙◌, arith}
use Rattle.reader.proofs.ItemLaws.{word_past, word_in}
use Rattle.reader.proofs.words.Words.get.Goals as goal

pub returns-then-index-self : goal.returns-then-index-self
returns-then-index-self c = sym (word_past c.args.self.now.left.now c.args.index (omega arith))

pub returns : goal.returns
returns c = ap Some c.number_in.ensures ∙ sym (word_in c.args.self.now.left.now c.args.index (omega arith))
