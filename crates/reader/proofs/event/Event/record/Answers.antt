use Rattle.std.proofs.Common.{◌≡◌, map, ◌∙◌}
use Rattle.std.proofs.lemmas.Iterator.Consumers.{YieldsList-from_first, nth_from_yields_List}
use Rattle.reader.specs.Parts.{record_value, records_left, value_of}
use Rattle.reader.proofs.PartLaws.{stands, record_there}
use Rattle.reader.proofs.event.Event.record.Goals as goal

pub returns : goal.returns
returns c =
    let e = c.args.self.now in
    let same : c.index.result ≡ c.args.fibre = c.index.ensures ∙ c.in_ok-fibre.ensures in
    let nth = nth_from_yields_List c.nth.result c.nth.new.self c.index.result c.nth.ensures.ran (YieldsList-from_first record_value records_left (map (λ x. (e.kind, x)) (value_of e).contents) c.records.ensures.given) in
    rw c.ok_or.ensures.value (record_there e c.nth.result c.args.fibre (stands e.bytes.now e.kind e.bytes_fit e.accepted e.of_kind) (rw same at nth))
