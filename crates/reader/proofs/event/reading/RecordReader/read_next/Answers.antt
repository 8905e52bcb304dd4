use Rattle.std.proofs.Common.{◌≡◌, ◌≤◌, length, Ok, ◌∙◌, rules}
use Rattle.std.specs.Option.{option_map}
use Rattle.std.proofs.lemmas.List.{take_rest}
use Rattle.layout.specs.Event.{code}
use Rattle.reader.specs.Questions.{verdict}
use Rattle.reader.proofs.Steps.{record_there, record_passed}
use Rattle.reader.proofs.event.reading.RecordReader.read_next.Goals as goal

pub returns-clause-passed : goal.returns-clause-passed
returns-clause-passed c =
    let xs = c.args.self.now.left.bytes.now in
    let long : 3 ≤ length xs = search rules in
    let r = c.in_ok-kind.ensures in
    let there : Ok tt ≡ verdict (record_there (option_map code c.args.first) c.args.self.now.left.at xs) = simp (take_rest, c.from-size.ensures, c.number_in.ensures) at r.asked in
    record_passed c.args.first c.args.self.now _ c.from-size.result c.in_ok-kind.kind long (c.from-size.ensures ∙ c.number_in.ensures) there r.kind r.same c.behind-self.ensures.bytes c.behind-self.ensures.at
