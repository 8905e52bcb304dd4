use Rattle.std.proofs.Common.{◌≡◌, ◌+◌, ◌*◌, ◌^◌, ◌<◌, length, inl, ap, ◌∙◌, arith, rules, tests}
use Rattle.std.proofs.lemmas.Iterator.Consumers.{YieldsList-from_first}
use Rattle.std.proofs.lemmas.Iterator.Search.{position_from_yields_List}
use Rattle.std.proofs.lemmas.Iterator.Adapters.{position_from-zero}
use Rattle.reader.specs.Items.{words_in}
use Rattle.reader.specs.Parts.{words_left}
use Rattle.reader.specs.Questions.{verdict, read_words}
use Rattle.reader.proofs.ItemLaws.{too_large, word_fault, words_few, read_all}
use Rattle.reader.proofs.words.read_words.Goals as goal
use Rattle.reader.proofs.words.read_words.Goals.{After-new, After-position}

-- the words, two bytes each, lie within the part
room : (c : After-new) → c.args.content.at + 2 * length (words_left c.new.result) < 2 ^ 64
room c = let is = ap length c.new.ensures in omega (arith, is, words_few c.args.content.bytes.now, c.args.content.fits)

-- the first word that is too large is the fault
found : (c : After-position) → word_fault c.args.content.at c.position.result ≡ verdict (read_words c.args.content.at c.args.content.bytes.now)
found c =
    let ws = words_in c.args.content.bytes.now in
    let first = position_from_yields_List too_large c.position.new.self _ c.position.result c.position.ensures.ran (YieldsList-from_first (λ x. x) words_left ws c.new.ensures) (λ x b q k. search (rules, tests)) in
    ap (word_fault c.args.content.at) (first ∙ position_from-zero too_large ws) ∙ read_all c.args.content.at c.args.content.bytes.now

pub position-requires-clause-fits : goal.position-requires-clause-fits
position-requires-clause-fits c = inl (omega (arith, room (goal.at.position-requires-clause-fits c).After-new))

pub overflow_mul-result : goal.overflow_mul-result
overflow_mul-result c = omega (arith, room (goal.at.overflow_mul-result c).After-new, c.in-Some.ensures.bound)

pub overflow_add-result : goal.overflow_add-result
overflow_add-result c = omega (arith, room (goal.at.overflow_add-result c).After-new, c.in-Some.ensures.bound)

pub returns-in-Some : goal.returns-in-Some
returns-in-Some c = rw c.in-Some.is at (found (goal.at.returns-in-Some c).After-position)

pub returns-in-None : goal.returns-in-None
returns-in-None c = rw c.in-None.is at (found (goal.at.returns-in-None c).After-position)
