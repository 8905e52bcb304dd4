-- What the parts of an input that the reader hands out hold.
-- Assumes nothing.
use Rattle.std.specs.Prelude.{◌≡◌, ℕ, List, ◌++◌, map, length, Ok, Err, ◌≢◌}
use Rattle.layout.specs.Event as layout
use Rattle.reader.specs.declared.cluster.Cluster.{Cluster}
use Rattle.reader.specs.declared.cluster.Clusters.{Clusters}
use Rattle.reader.specs.declared.words.Words.{Words}
use Rattle.reader.specs.declared.record.Record.{Record}
use Rattle.reader.specs.declared.record.Records.{Records}
use Rattle.reader.specs.declared.event.Event.{Event}
use Rattle.layout.specs.declared.kind.Kind.{Kind}
use Rattle.faults.specs.declared.fault.EventFault.{EventFault}
use Rattle.reader.specs.Items.{words_in, clusters_in, content_in, contents_in, event_in}
use Rattle.reader.specs.Laws.{StandsFor}
use Rattle.reader.specs.Questions.{read_first, read_event}

abbrev pub cluster_value : Cluster → layout.Cluster
cluster_value c = record { address = c.address; values = c.values.now }

-- the clusters that an iterator has still to give, and the words
abbrev pub clusters_left : Clusters → List layout.Cluster
clusters_left i = clusters_in i.left.now

abbrev pub words_left : Words → List ℕ
words_left i = words_in i.left.now

-- a record's kind and content
abbrev pub content_of : Record → layout.Content
content_of r = content_in r.kind r.content.now

abbrev pub record_value : Record → Kind × layout.Content
record_value r = (r.kind, content_of r)

-- the records of an event, in fibre order
abbrev pub records_of : layout.Event → List (Kind × layout.Content)
records_of v = map (λ c. (v.kind, c)) v.contents

-- the records that an iterator has still to give
abbrev pub records_left : Records → List (Kind × layout.Content)
records_left i = map (λ c. (i.kind, c)) (contents_in i.kind i.left.now)

abbrev pub event_bytes : Event → List ℕ
event_bytes e = e.bytes.now

-- the event of the layout that an event holds
abbrev pub value_of : Event → layout.Event
value_of e = event_in e.kind e.bytes.now

-- an event that was read holds an event of the layout: its bytes stand for it, and it has its kind
abbrev pub Holds : Event → layout.Event → Type 0
Holds e v = StandsFor (event_bytes e) v × (e.kind ≡ v.kind)

-- an input that was accepted: it is what its questions come to, and no other event has these bytes
pub record Accepted (bs : List ℕ) (e : Event) : Type 0 where
  pub value : layout.Event
  pub read : read_event bs ≡ Ok value
  pub holds : Holds e value
  pub whole : event_bytes e ≡ bs
  pub only : (d : layout.Event) → StandsFor bs d → d ≡ value

-- an input that was refused: the fault is what its questions come to, and no event has these bytes
pub record Rejected (bs : List ℕ) (f : EventFault) : Type 0 where
  pub read : read_event bs ≡ Err f
  pub none : (d : layout.Event) → StandsFor bs d → ⊥

-- an input with an event at its front, and what lies behind it: no other front of it is an event
pub record AcceptedFront (bs : List ℕ) (e : Event) (rest : List ℕ) : Type 0 where
  pub value : layout.Event
  pub read : read_first bs ≡ Ok (value, length (event_bytes e))
  pub holds : Holds e value
  pub whole : event_bytes e ++ rest ≡ bs
  pub only : (d : layout.Event) (more : List ℕ) → layout.EventOk d → layout.bytes_of d ++ more ≡ bs → (d ≡ value) × (more ≡ rest)

-- an input with no event at its front
pub record RejectedFront (bs : List ℕ) (f : EventFault) : Type 0 where
  pub read : read_first bs ≡ Err f
  pub none : (d : layout.Event) (more : List ℕ) → layout.EventOk d → layout.bytes_of d ++ more ≢ bs
