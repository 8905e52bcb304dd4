use Rattle.std.proofs.Common.{◌≡◌, take, sym, ap, ◌∙◌}
use Rattle.std.proofs.ByRecursion.{All-take}
use Rattle.std.proofs.lemmas.Result.{err_from_is_err_and}
use Rattle.layout.specs.Event.{Byte, kind_of}
use Rattle.reader.proofs.Asks.{some_same}
use Rattle.reader.proofs.Fronts.{Front, front_found, front_none, walk_fault, accepted_front}
use Rattle.reader.proofs.RecordLaws.{known_code}
use Rattle.reader.proofs.PartLaws.{kept_fit, kept_accepted, kept_kind}
use Rattle.reader.proofs.event.reading.read_first.Goals as goal
use Rattle.reader.proofs.event.reading.read_first.Goals.{In_ok-kind}

found : (c : goal.In_ok-kind) → Front c.args.input.now c.in_ok-kind.end
found c = let r = c.in_ok-kind.ensures in front_found _ _ r.bytes r.end

same : (c : goal.In_ok-kind) → c.in_ok-kind.kind ≡ (found c).value.kind
same c = some_same c.in_ok-kind.kind (found c).value.kind (sym (known_code c.in_ok-kind.kind) ∙ (ap kind_of (sym c.in_ok-kind.ensures.kind) ∙ (found c).kind))

pub returns-in_err-kind : goal.returns-in_err-kind
returns-in_err-kind c =
    let p = err_from_is_err_and c.from_residual.result c.from_residual.ensures.1 in
    let f = c.in_err-kind.ensures.end in
    let bs = c.args.input.now in
    let no = walk_fault bs _ f in
    rw (p.1, p.2) (record { read = no; none = front_none bs _ no })

pub split_at-requires : goal.split_at-requires
split_at-requires c = (found (goal.at.split_at-requires c).In_ok-kind).within

pub returns : goal.returns
returns c =
    let bs = c.args.input.now in
    let f = found (goal.at.returns c).In_ok-kind in
    let front = c.split_at.ensures.front in
    let back = c.split_at.ensures.back in
    accepted_front bs c.in_ok-kind.end _ _ f (same (goal.at.returns c).In_ok-kind) front back

pub invariant_of-result : goal.invariant_of-result
invariant_of-result c =
    let f = found (goal.at.invariant_of-result c).In_ok-kind in
    let bs = c.args.input.now in
    let n = c.in_ok-kind.end in
    let front = c.split_at.ensures.front in
    let is = front ∙ f.bytes in
    let bytes = c.in_ok-kind.ensures.bytes in
    record {
      bytes_fit = rw front (kept_fit bs n bytes);
      accepted = rw front (kept_accepted (take n bs) f.value (All-take Byte n bs bytes) f.event f.bytes);
      of_kind = kept_kind _ f.value c.in_ok-kind.kind f.event is (same (goal.at.invariant_of-result c).In_ok-kind);
    }
