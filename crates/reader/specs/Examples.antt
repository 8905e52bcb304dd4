-- A record worked by hand, read.
-- Assumes nothing.
use Rattle.std.specs.Prelude.{◌≡◌, [], ◌∷◌, None, Ok, Err}
use Rattle.layout.specs.Event.{suppressed}
use Rattle.faults.specs.declared.fault.ClusterFault.TheVariants as clusters
use Rattle.faults.specs.declared.fault.RecordFault.TheVariants as records
use Rattle.reader.specs.Questions.{read_record}

-- the record 0B 00 EA 64 00 2C 01 05 02 1E 28 has the common modes 100 and 300, and one cluster at strip 5 with the
-- values 30 and 40; with its cluster's length 0 in place of 2 the fault is 28, at the address byte
abbrev pub WorkedExamples : Type 0
WorkedExamples =
    (read_record None 0 0x0B 0xEA (0x64 ∷ 0x00 ∷ 0x2C ∷ 0x01 ∷ 0x05 ∷ 0x02 ∷ 0x1E ∷ 0x28 ∷ [])
    ≡ Ok (suppressed (record { left = 100; right = 300 }) (record { address = 5; values = 30 ∷ 40 ∷ [] } ∷ [])))
    × (read_record None 0 0x0B 0xEA (0x64 ∷ 0x00 ∷ 0x2C ∷ 0x01 ∷ 0x05 ∷ 0x00 ∷ 0x1E ∷ 0x28 ∷ [])
    ≡ Err (records.Cluster (clusters.BadLength 7)))
