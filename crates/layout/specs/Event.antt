-- What an event is, and which bytes stand for it.
-- Assumes nothing.
use Rattle.std.specs.Prelude.{◌≡◌, ℕ, ◌+◌, ◌/◌, ◌%◌, ◌<◌, ◌≤◌, true, cond, List, [], ◌∷◌, ◌++◌, map, length, Some, None, Option, ◌==◌}
use Rattle.std.specs.List.{flat_map, AllByRecursion}
use Rattle.terms.specs.declared.pair.Pair.{Pair}
use Rattle.layout.specs.declared.kind.Kind.{Kind}
use Rattle.layout.specs.declared.kind.Kind.TheVariants.{ZeroSuppressed, ProcessedRaw, VirginRaw}
use Rattle.layout.specs.declared.run.Run.{Run}
use Rattle.layout.specs.Places.{spaced}

-- a common mode, a flat value or a sample has ten bits
abbrev pub TenBits : ℕ → Type 0
TenBits w = w ≤ 1023

abbrev pub Byte : ℕ → Type 0
Byte b = b < 256

-- a cluster: its first strip, and one reduced value for each of its strips
pub record Cluster : Type 0 where
  pub address : ℕ
  pub values : List ℕ

-- the strips that a cluster covers
abbrev pub run_of : Cluster → Run
run_of c = record { address = c.address; strips = length c.values }

-- an address and the reduced values are bytes
abbrev pub ClusterBytes : Cluster → Type 0
ClusterBytes c = Byte c.address × AllByRecursion Byte c.values

-- the content of a record: common modes and clusters, or the words of a raw record
pub data Content : Type 0 where
  suppressed : Pair ℕ → List Cluster → Content
  words : List ℕ → Content

-- an event: its kind, and the contents of its records in fibre order
pub record Event : Type 0 where
  pub kind : Kind
  pub contents : List Content

-- a content that a record of a kind may have
abbrev pub ContentOk : Kind → Content → Type 0
ContentOk ZeroSuppressed (suppressed m cs) =
    TenBits m.left × TenBits m.right × (spaced (map run_of cs) ≡ true) × AllByRecursion ClusterBytes cs
ContentOk ZeroSuppressed (words ws) = ⊥
ContentOk ProcessedRaw (suppressed m cs) = ⊥
ContentOk ProcessedRaw (words ws) = (length ws ≡ 256) × AllByRecursion TenBits ws
ContentOk VirginRaw (suppressed m cs) = ⊥
ContentOk VirginRaw (words ws) = (length ws ≡ 256) × AllByRecursion TenBits ws

-- twelve records of one kind
abbrev pub EventOk : Event → Type 0
EventOk e = (length e.contents ≡ 12) × AllByRecursion (ContentOk e.kind) e.contents

-- the packet code of each kind
abbrev pub code : Kind → ℕ
code ZeroSuppressed = 0xEA
code ProcessedRaw = 0xF2
code VirginRaw = 0xE6

-- the kind of a packet code, if it is one
abbrev pub kind_of : ℕ → Option Kind
kind_of c =
    cond (c == code ZeroSuppressed) (Some ZeroSuppressed)
    (cond (c == code ProcessedRaw) (Some ProcessedRaw) (cond (c == code VirginRaw) (Some VirginRaw) None))

-- the shortest and the longest record of each kind, in bytes
abbrev pub shortest : Kind → ℕ
shortest ZeroSuppressed = 7
shortest ProcessedRaw = 515
shortest VirginRaw = 515

abbrev pub longest : Kind → ℕ
longest ZeroSuppressed = 267
longest ProcessedRaw = 515
longest VirginRaw = 515

-- a number in two bytes, low byte first
abbrev pub word : ℕ → List ℕ
word w = w % 256 ∷ w / 256 ∷ []

abbrev pub cluster_bytes : Cluster → List ℕ
cluster_bytes c = c.address ∷ length c.values ∷ c.values

abbrev pub modes_bytes : Pair ℕ → List ℕ
modes_bytes m = word m.left ++ word m.right

abbrev pub content_bytes : Content → List ℕ
content_bytes (suppressed m cs) = modes_bytes m ++ flat_map cluster_bytes cs
content_bytes (words ws) = flat_map word ws

-- a record: its length in two bytes, its packet code, its content
abbrev pub record_bytes : Kind → Content → List ℕ
record_bytes k c = word (3 + length (content_bytes c)) ++ code k ∷ content_bytes c

-- the bytes that stand for an event
abbrev pub bytes_of : Event → List ℕ
bytes_of e = flat_map (record_bytes e.kind) e.contents
