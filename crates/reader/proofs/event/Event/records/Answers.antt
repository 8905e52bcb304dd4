use Rattle.std.proofs.Common.{map, ap₂}
use Rattle.reader.specs.Items.{contents_in}
use Rattle.reader.proofs.PartLaws.{stands, twelve_given}
use Rattle.reader.proofs.event.Event.records.Goals as goal

pub new-requires : goal.new-requires
new-requires c = let e = c.args.self.now in (stands e.bytes.now e.kind e.bytes_fit e.accepted e.of_kind).1

pub returns-clause-given : goal.returns-clause-given
returns-clause-given c = ap₂ (λ k bs. map (λ x. (k, x)) (contents_in k bs)) c.new.ensures.kind c.new.ensures.bytes

pub returns-clause-twelve : goal.returns-clause-twelve
returns-clause-twelve c =
    let e = c.args.self.now in
    let s = stands e.bytes.now e.kind e.bytes_fit e.accepted e.of_kind in
    twelve_given e.kind (contents_in e.kind e.bytes.now) _ s.0.0 (ap₂ (λ k bs. map (λ x. (k, x)) (contents_in k bs)) c.new.ensures.kind c.new.ensures.bytes)
