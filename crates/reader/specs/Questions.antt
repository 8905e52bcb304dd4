-- The questions that the reader asks of its input, in their order: the first one that is answered no is the fault.
-- Assumes nothing.
use Rattle.std.specs.Prelude.{ℕ, zero, suc, ◌+◌, ◌-◌, ◌*◌, Bool, true, false, ◌&&◌, List, [], ◌∷◌, length, take, drop, Some, None, Ok, Err, Option, Result, ◌==◌, nat_le, slice_index}
use Rattle.layout.specs.declared.kind.Kind.{Kind}
use Rattle.layout.specs.declared.kind.Kind.TheVariants.{ZeroSuppressed, ProcessedRaw, VirginRaw}
use Rattle.layout.specs.declared.run.Run.{Run}
use Rattle.layout.specs.Places.{placed, apart}
pub use Rattle.layout.specs.Event.{kind_of}
use Rattle.layout.specs.Event.{Cluster, run_of, Content, suppressed, words, Event, shortest, longest}
use Rattle.faults.specs.declared.fault.ClusterFault.{ClusterFault}
use Rattle.faults.specs.declared.fault.ClusterFault.TheVariants as clusters
use Rattle.faults.specs.declared.fault.RecordFault.{RecordFault}
use Rattle.faults.specs.declared.fault.RecordFault.TheVariants as records
use Rattle.faults.specs.declared.fault.EventFault.{EventFault}
use Rattle.faults.specs.declared.fault.EventFault.TheVariants as events

-- what an Ok holds, changed by f
abbrev pub ok_map : {A B E : Type 0} → (A → B) → Result A E → Result B E
ok_map f (Ok x) = Ok (f x)
ok_map f (Err e) = Err e

-- that all questions are answered yes, or the fault
abbrev pub verdict : {A E : Type 0} → Result A E → Result (Unit {0}) E
verdict (Ok x) = Ok tt
verdict (Err e) = Err e

-- what an Err holds, changed by f: a lower fault inside an upper one
abbrev pub err_map : {A E F : Type 0} → (E → F) → Result A E → Result A F
err_map f (Ok x) = Ok x
err_map f (Err e) = Err (f e)

-- the next question, asked only where the one before was answered yes
abbrev pub and_then : {A B E : Type 0} → Result A E → (A → Result B E) → Result B E
and_then (Ok x) f = f x
and_then (Err e) f = Err e

-- a question: yes goes on, no is the fault
abbrev pub ask : {A E : Type 0} → Bool → E → Result A E → Result A E
ask true e r = r
ask false e r = Err e

-- the number in two bytes, low byte first
abbrev pub number_in : ℕ → ℕ → ℕ
number_in lo hi = lo + 256 * hi

-- a run lies behind the cluster before, if there is one
abbrev pub behind : Option Run → Run → Bool
behind None r = true
behind (Some p) r = apart p r

-- the questions of one cluster, whose first byte is at offset `at`; xs is what is left of its record
abbrev pub read_cluster : Option Run → ℕ → List ℕ → Result Cluster ClusterFault
read_cluster before at [] = Err (clusters.NoHeader at)
read_cluster before at (a ∷ []) = Err (clusters.NoHeader at)
read_cluster before at (a ∷ n ∷ xs) =
    ask (placed (record { address = a; strips = n })) (clusters.BadLength at)
    (ask (nat_le n (length xs)) (clusters.DataOutside at)
    (ask (behind before (record { address = a; strips = n })) (clusters.OutOfOrder at)
    (Ok (record { address = a; values = take n xs }))))

-- the clusters that fill a record's bytes xs; `skip` bytes still belong to the cluster before
abbrev pub read_clusters : ℕ → Option Run → ℕ → List ℕ → Result (List Cluster) ClusterFault
read_clusters skip before at [] = Ok []
read_clusters (suc n) before at (x ∷ xs) = read_clusters n before (at + 1) xs
read_clusters zero before at (x ∷ xs) =
    and_then (read_cluster before at (x ∷ xs))
    (λ c. ok_map (λ cs. c ∷ cs) (read_clusters (1 + length c.values) (Some (run_of c)) (at + 1) xs))

-- ten-bit words, two bytes each
abbrev pub read_words : ℕ → List ℕ → Result (List ℕ) RecordFault
read_words at [] = Ok []
read_words at (x ∷ []) = Ok []
read_words at (lo ∷ hi ∷ xs) =
    ask (nat_le (number_in lo hi) 1023) (records.TooLarge at)
    (ok_map (λ ws. number_in lo hi ∷ ws) (read_words (at + 2) xs))

-- the common mode in the two bytes from place i on
abbrev pub mode_in : ℕ → List ℕ → ℕ
mode_in i xs = number_in (slice_index xs i) (slice_index xs (i + 1))

-- both common modes, then the clusters
abbrev pub read_suppressed : ℕ → List ℕ → Result Content RecordFault
read_suppressed at xs =
    ask (nat_le (mode_in 0 xs) 1023) (records.TooLarge at)
    (ask (nat_le (mode_in 2 xs) 1023) (records.TooLarge (at + 2))
    (err_map records.Cluster
    (ok_map (suppressed (record { left = mode_in 0 xs; right = mode_in 2 xs })) (read_clusters 0 None (at + 4) (drop 4 xs)))))

-- the content of a record of a kind, at offset `at`
abbrev pub read_content : Kind → ℕ → List ℕ → Result Content RecordFault
read_content ZeroSuppressed at xs = read_suppressed at xs
read_content ProcessedRaw at xs = ok_map words (read_words at xs)
read_content VirginRaw at xs = ok_map words (read_words at xs)

-- a code is that of fibre 0, whose code is `first`; fibre 0 itself has none before it
abbrev pub same_code : Option ℕ → ℕ → Bool
same_code None c = true
same_code (Some f) c = f == c

-- the questions of a record's length n, and of its content: xs is all that lies behind its three header bytes
abbrev pub read_body : Kind → ℕ → ℕ → List ℕ → Result Content RecordFault
read_body k at n xs =
    ask (nat_le (shortest k) n && nat_le n (longest k)) (records.LengthRange at)
    (ask (nat_le n (3 + length xs)) (records.Outside at) (read_content k (at + 3) (take (n - 3) xs)))

-- the questions of a record at offset `at`, behind its header bytes
abbrev pub read_record : Option ℕ → ℕ → ℕ → ℕ → List ℕ → Result Content RecordFault
read_record first at n c xs =
    elim (kind_of c) [
      | None ↦ Err (records.UnknownCode (at + 2))
      | Some k ↦ ask (same_code first c) (records.OtherKind (at + 2)) (read_body k at n xs)
    ]

-- what the walk over an event's records has found: their contents, and the offset behind the last
pub record Walked : Type 0 where
  pub contents : List Content
  pub end : ℕ

abbrev pub ends_at : Walked → ℕ
ends_at w = w.end

abbrev pub with_content : Content → Walked → Walked
with_content c w = record { contents = c ∷ w.contents; end = w.end }

-- the next n records, from offset `at` on
abbrev pub read_records : ℕ → Option ℕ → ℕ → List ℕ → Result Walked EventFault
read_records zero first at xs = Ok (record { contents = []; end = at })
read_records (suc n) first at [] = Err (events.NoHeader at)
read_records (suc n) first at (x ∷ []) = Err (events.NoHeader at)
read_records (suc n) first at (x ∷ y ∷ []) = Err (events.NoHeader at)
read_records (suc n) first at (lo ∷ hi ∷ c ∷ xs) =
    and_then (err_map events.Record (read_record first at (number_in lo hi) c xs))
    (λ content. ok_map (with_content content) (read_records n (Some c) (at + number_in lo hi) (drop (number_in lo hi - 3) xs)))

-- the kind of a code that is known
abbrev pub known_kind : Option Kind → Kind
known_kind None = ZeroSuppressed
known_kind (Some k) = k

abbrev pub event_from : List ℕ → Walked → Event
event_from xs w = record { kind = known_kind (kind_of (slice_index xs 2)); contents = w.contents }

-- the event at the front of an input, and how many bytes it has
abbrev pub read_first : List ℕ → Result (Event × ℕ) EventFault
read_first xs = ok_map (λ w. (event_from xs w, w.end)) (read_records 12 None 0 xs)

-- the event that an input is
abbrev pub read_event : List ℕ → Result Event EventFault
read_event xs = and_then (read_first xs) (λ p. ask (p.1 == length xs) (events.LeftOver p.1) (Ok p.0))

-- a stored run: the events that were read, the offset behind them, and the fault that ended the walk
pub record Survey : Type 0 where
  pub events : List Event
  pub end : ℕ
  pub fault : Option EventFault

abbrev pub with_event : Event → Survey → Survey
with_event e s = record { events = e ∷ s.events; end = s.end; fault = s.fault }

-- the walk over a stored run, events one after the other; `skip` bytes still belong to the event before
abbrev pub survey : ℕ → ℕ → List ℕ → Survey
survey skip at [] = record { events = []; end = at; fault = None }
survey (suc n) at (x ∷ xs) = survey n (at + 1) xs
survey zero at (x ∷ xs) =
    elim (read_first (x ∷ xs)) [
      | Ok p ↦ with_event p.0 (survey (p.1 - 1) (at + 1) xs)
      | Err f ↦ record { events = []; end = at; fault = Some f }
    ]
