-- The faults of the reader: the number, the layer and the byte offset of each.
-- Assumes nothing.
use Rattle.std.specs.Prelude.{ℕ}
use Rattle.faults.specs.declared.fault.Layer.{Layer}
use Rattle.faults.specs.declared.fault.Layer.TheVariants as layers
use Rattle.faults.specs.declared.fault.ClusterFault.{ClusterFault}
use Rattle.faults.specs.declared.fault.ClusterFault.TheVariants as clusters
use Rattle.faults.specs.declared.fault.RecordFault.{RecordFault}
use Rattle.faults.specs.declared.fault.RecordFault.TheVariants as records
use Rattle.faults.specs.declared.fault.EventFault.{EventFault}
use Rattle.faults.specs.declared.fault.EventFault.TheVariants as events

abbrev pub cluster_number : ClusterFault → ℕ
cluster_number (clusters.NoHeader at) = 27
cluster_number (clusters.BadLength at) = 28
cluster_number (clusters.DataOutside at) = 29
cluster_number (clusters.OutOfOrder at) = 30

abbrev pub record_number : RecordFault → ℕ
record_number (records.UnknownCode at) = 22
record_number (records.OtherKind at) = 23
record_number (records.LengthRange at) = 24
record_number (records.Outside at) = 25
record_number (records.TooLarge at) = 26
record_number (records.Cluster f) = cluster_number f

-- the number of each fault
abbrev pub fault_number : EventFault → ℕ
fault_number (events.NoHeader at) = 21
fault_number (events.Record f) = record_number f
fault_number (events.LeftOver at) = 31

abbrev pub record_layer : RecordFault → Layer
record_layer (records.UnknownCode at) = layers.Record
record_layer (records.OtherKind at) = layers.Record
record_layer (records.LengthRange at) = layers.Record
record_layer (records.Outside at) = layers.Record
record_layer (records.TooLarge at) = layers.Record
record_layer (records.Cluster f) = layers.Cluster

-- the layer of each fault
abbrev pub fault_layer : EventFault → Layer
fault_layer (events.NoHeader at) = layers.Event
fault_layer (events.Record f) = record_layer f
fault_layer (events.LeftOver at) = layers.Event

abbrev pub cluster_offset : ClusterFault → ℕ
cluster_offset (clusters.NoHeader at) = at
cluster_offset (clusters.BadLength at) = at
cluster_offset (clusters.DataOutside at) = at
cluster_offset (clusters.OutOfOrder at) = at

abbrev pub record_offset : RecordFault → ℕ
record_offset (records.UnknownCode at) = at
record_offset (records.OtherKind at) = at
record_offset (records.LengthRange at) = at
record_offset (records.Outside at) = at
record_offset (records.TooLarge at) = at
record_offset (records.Cluster f) = cluster_offset f

-- the byte at which each fault is found, counted from the start of the input
abbrev pub fault_offset : EventFault → ℕ
fault_offset (events.NoHeader at) = at
fault_offset (events.Record f) = record_offset f
fault_offset (events.LeftOver at) = at
