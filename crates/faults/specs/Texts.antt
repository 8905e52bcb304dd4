-- The words in which a fault is told of.
-- Assumes nothing.
use Rattle.std.specs.Prelude.{ℕ, List, codes}
use Rattle.faults.specs.declared.fault.Layer.{Layer}
use Rattle.faults.specs.declared.fault.Layer.TheVariants as layers
use Rattle.faults.specs.declared.fault.ClusterFault.{ClusterFault}
use Rattle.faults.specs.declared.fault.ClusterFault.TheVariants as clusters
use Rattle.faults.specs.declared.fault.RecordFault.{RecordFault}
use Rattle.faults.specs.declared.fault.RecordFault.TheVariants as records
use Rattle.faults.specs.declared.fault.EventFault.{EventFault}
use Rattle.faults.specs.declared.fault.EventFault.TheVariants as events

-- the name of each layer
abbrev pub layer_text : Layer → List ℕ
layer_text layers.Event = codes "event"
layer_text layers.Record = codes "record"
layer_text layers.Cluster = codes "cluster"

-- what each fault of a cluster means
abbrev pub cluster_text : ClusterFault → List ℕ
cluster_text (clusters.NoHeader at) = codes "one byte left in the record where a cluster needs two"
cluster_text (clusters.BadLength at) = codes "a cluster with no strip or beyond the end of its chip"
cluster_text (clusters.DataOutside at) = codes "cluster values beyond the end of the record"
cluster_text (clusters.OutOfOrder at) = codes "a cluster not above the one before, or with fewer than two strips free between them"

-- what each fault of a record means
abbrev pub record_text : RecordFault → List ℕ
record_text (records.UnknownCode at) = codes "an unknown packet code"
record_text (records.OtherKind at) = codes "a packet code other than that of fibre 0"
record_text (records.LengthRange at) = codes "a length that a record of this kind cannot have"
record_text (records.Outside at) = codes "a record beyond the end of the file"
record_text (records.TooLarge at) = codes "a common mode or word above 1023"
record_text (records.Cluster f) = cluster_text f

-- what each fault of an event means
abbrev pub event_text : EventFault → List ℕ
event_text (events.NoHeader at) = codes "fewer than three bytes left for a record"
event_text (events.Record f) = record_text f
event_text (events.LeftOver at) = codes "bytes behind the twelfth record"
