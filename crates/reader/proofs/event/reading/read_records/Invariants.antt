use Rattle.std.proofs.Common.{◌≡◌, ◌-◌, None, Some}
use Rattle.reader.specs.Questions.{ok_map, ends_at, read_records}
use Rattle.reader.specs.Walks.{ends}
use Rattle.reader.proofs.event.reading.read_records.Given as goal

-- the records that are left end where all twelve do
abbrev pub invariant-loop-fibre : goal.invariant-loop-fibre
invariant-loop-fibre l =
    ends (12 - l._fibre) (Some l.kind) l.records ≡ ok_map ends_at (read_records 12 None 0 l.input)
