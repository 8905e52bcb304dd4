use Rattle.reader.specs.Parts.{content_of, words_left}
use Rattle.reader.proofs.ItemLaws.{word_there}
use Rattle.reader.proofs.record.Record.word.Goals as goal

pub returns : goal.returns
returns c = word_there (content_of c.args.self.now) (words_left c.in_ok-words.field-0) c.get.result c.args.index c.in_ok-words.ensures c.get.ensures
