-- What a record answers to the questions of its reader.
-- Assumes nothing.
use Rattle.std.specs.Prelude.{◌≡◌, ℕ, List, length, Some, None, Ok, Err, Option, Result}
use Rattle.std.specs.List.{slice_get}
use Rattle.terms.specs.declared.pair.Pair.{Pair}
use Rattle.terms.specs.declared.refusal.Refusal.{Refusal}
use Rattle.terms.specs.declared.refusal.Refusal.TheVariants.{NoSuchCluster, NotZeroSuppressed}
use Rattle.layout.specs.declared.kind.Kind.{Kind}
use Rattle.layout.specs.Event as layout
use Rattle.layout.specs.Event.{Cluster, Content, suppressed, words, ContentOk, content_bytes, record_bytes}
use Rattle.reader.specs.declared.record.Record.{Record}
use Rattle.reader.specs.declared.event.Event.{Event}
use Rattle.reader.specs.Parts.{content_of, value_of, Holds}

-- a record that was read has this content: it is of its kind, and its bytes are those of the content
pub record HasContent (r : Record) (k : Kind) (c : Content) : Type 0 where
  pub kind : r.kind ≡ k
  pub bytes : r.content.now ≡ content_bytes c
  pub ok : ContentOk k c

-- a record has no other content than its own
abbrev pub OneContent : Type 0
OneContent = (r : Record) (k : Kind) (c : Content) → HasContent r k c → content_of r ≡ c

-- an event holds no other event of the layout than its own
abbrev pub OneEvent : Type 0
OneEvent = (e : Event) (v : layout.Event) → Holds e v → value_of e ≡ v

-- the record of a fibre of an event
pub record RecordOf (e : Event) (fibre : ℕ) (r : Record) : Type 0 where
  pub there : slice_get (value_of e).contents fibre ≡ Some (content_of r)
  pub has : HasContent r (value_of e).kind (content_of r)

-- both common modes; a raw record has none
abbrev pub modes_of : Content → Option (Pair ℕ)
modes_of (suppressed m cs) = Some m
modes_of (words ws) = None

-- the clusters; a raw record has none
abbrev pub clusters_of : Content → Option (List Cluster)
clusters_of (suppressed m cs) = Some cs
clusters_of (words ws) = None

-- the words; a zero-suppressed record has none
abbrev pub words_of : Content → Option (List ℕ)
words_of (suppressed m cs) = None
words_of (words ws) = Some ws

-- how many clusters; a raw record has no such number
abbrev pub count_of : Content → Option ℕ
count_of (suppressed m cs) = Some (length cs)
count_of (words ws) = None

-- a zero-suppressed record? else 33; index present? else 32
abbrev pub present : Option Cluster → Result Cluster Refusal
present (Some c) = Ok c
present None = Err NoSuchCluster

abbrev pub cluster_of : Content → ℕ → Result Cluster Refusal
cluster_of (suppressed m cs) i = present (slice_get cs i)
cluster_of (words ws) i = Err NotZeroSuppressed

-- the word of an index; there is none past the end, nor in a zero-suppressed record
abbrev pub word_of : Content → ℕ → Option ℕ
word_of (suppressed m cs) i = None
word_of (words ws) i = slice_get ws i
