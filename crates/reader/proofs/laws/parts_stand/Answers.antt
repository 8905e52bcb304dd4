use Rattle.reader.proofs.PartLaws.{one_event, one_content}
use Rattle.reader.proofs.laws.parts_stand.Goals as goal

pub returns : goal.returns
returns c = record { event = one_event; content = one_content }
