-- The questions of a part and of a header, and one step of the walks over the records of an event and the clusters
-- of a record.
-- Assumes nothing.
use Rattle.std.specs.Prelude.{◌≡◌, ℕ, suc, ◌+◌, length, drop, Some, Ok, Err, Option, Result, slice_index}
use Rattle.std.specs.Option.{option_map}
use Rattle.layout.specs.declared.kind.Kind.{Kind}
use Rattle.layout.specs.Event.{Cluster, Content, run_of, code}
use Rattle.faults.specs.declared.fault.ClusterFault.{ClusterFault}
use Rattle.faults.specs.declared.fault.RecordFault.{RecordFault}
use Rattle.faults.specs.declared.fault.EventFault.{EventFault}
use Rattle.reader.specs.declared.part.Part.{Part}
use Rattle.reader.specs.declared.record.header.Header.{Header}
use Rattle.reader.specs.declared.cluster.ClusterReader.{ClusterReader}
use Rattle.reader.specs.declared.event.reading.RecordReader.{RecordReader}
use Rattle.reader.specs.Questions.{ok_map, ends_at, read_cluster, read_content, read_body, read_record, read_records}

-- the questions of the content of a record of a kind
abbrev pub content_asked : Kind → Part → Result Content RecordFault
content_asked k part = read_content k part.at part.bytes.now

-- the questions of a record of a kind, behind its header
abbrev pub body_asked : Kind → Header → Result Content RecordFault
body_asked k header = read_body k header.at header.size header.rest.now

-- the questions of a record behind its header; `first` is the kind of fibre 0, for the fibres behind it
abbrev pub record_asked : Option Kind → Header → Result Content RecordFault
record_asked first header = read_record (option_map code first) header.at header.size header.code header.rest.now

-- where the next n records end, behind fibre 0 of this kind
abbrev pub ends : ℕ → Option Kind → RecordReader → Result ℕ EventFault
ends n first w = ok_map ends_at (read_records n (option_map code first) w.left.at w.left.bytes.now)

-- a record was read: the walk goes on behind it
pub record Passed (first : Option Kind) (old new : RecordReader) (kind : Kind) : Type 0 where
  pub others : (n : ℕ) → ends (suc n) first old ≡ ends n (Some kind) new
  pub code_is : slice_index old.left.bytes.now 2 ≡ code kind
  pub same : (f : Kind) → first ≡ Some f → kind ≡ f

-- no record was read: so ends the walk
abbrev pub Stopped : Option Kind → RecordReader → EventFault → Type 0
Stopped first old fault = (n : ℕ) → ends (suc n) first old ≡ Err fault

-- a cluster was read: the walk goes on behind it
pub record ClusterPassed (old new : ClusterReader) : Type 0 where
  pub value : Cluster
  pub read : read_cluster old.before old.left.at old.left.bytes.now ≡ Ok value
  pub before : new.before ≡ Some (run_of value)
  pub at : new.left.at ≡ old.left.at + (2 + length value.values)
  pub left : new.left.bytes.now ≡ drop (2 + length value.values) old.left.bytes.now

-- no cluster was read: this is why
abbrev pub ClusterStopped : ClusterReader → ClusterFault → Type 0
ClusterStopped old fault = read_cluster old.before old.left.at old.left.bytes.now ≡ Err fault
