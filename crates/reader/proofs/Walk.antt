-- One step of each walk: the bytes that belong to what was read are passed over, and the walk goes on behind them.
-- Assumes nothing.
use Rattle.std.proofs.Common.{◌≡◌, ℕ, zero, suc, ◌+◌, ◌-◌, ◌*◌, ◌<◌, ◌≤◌, true, ◌&&◌, leb, List, [], ◌∷◌, length, take, drop, Some, None, Ok, Err, Option, Result, sym, refl, ap, ◌∙◌, subst, ap₂, le_trans, le_of_eq, not-suc-le-zero, add-zero, arith, length-drop}
use Rattle.std.proofs.lemmas.Bool.{leb-true, and_parts}
use Rattle.std.proofs.lemmas.List.{length-take-le}
use Rattle.layout.specs.declared.kind.Kind.{Kind}
use Rattle.layout.specs.declared.kind.Kind.TheVariants.{ZeroSuppressed, ProcessedRaw, VirginRaw}
use Rattle.layout.specs.declared.run.Run.{Run}
use Rattle.layout.specs.Places.{placed}
use Rattle.layout.specs.Event.{Cluster, run_of, Content, Event, shortest, longest}
use Rattle.faults.specs.declared.fault.ClusterFault.{ClusterFault}
use Rattle.faults.specs.declared.fault.ClusterFault.TheVariants as clusters
use Rattle.faults.specs.declared.fault.RecordFault.{RecordFault}
use Rattle.faults.specs.declared.fault.RecordFault.TheVariants as records
use Rattle.faults.specs.declared.fault.EventFault.{EventFault}
use Rattle.faults.specs.declared.fault.EventFault.TheVariants as events
use Rattle.reader.specs.Questions.{ok_map, err_map, and_then, ask, behind, number_in, read_cluster, read_clusters, kind_of, same_code, read_content, read_body, read_record, Walked, with_content, read_records, event_from, read_first, Survey, with_event, survey}
use Rattle.reader.proofs.Asks.{err_ok, ok_same, ask_ok, and_then_ok, ok_map_ok, err_map_ok}

-- bytes that belong to the cluster before are passed over
pub skip_clusters :
    (n : ℕ) (b : Option Run) (at : ℕ) (xs : List ℕ) → n ≤ length xs → read_clusters n b at xs ≡ read_clusters 0 b (at + n) (drop n xs)
skip_clusters zero b at [] h = refl
skip_clusters (suc n) b at [] h = refl
skip_clusters zero b at (x ∷ xs) h = ap (λ (i : ℕ). read_clusters 0 b i (x ∷ xs)) (sym (add-zero at))
skip_clusters (suc n) b at (x ∷ xs) h =
    let e : at + 1 + n ≡ at + suc n = omega arith in
    let k : n ≤ length xs = omega arith in
    skip_clusters n b (at + 1) xs k ∙ ap (λ (i : ℕ). read_clusters 0 b i (drop n xs)) e

-- what a cluster that was read says of its bytes
pub record ClusterAt (b : Option Run) (xs : List ℕ) (c : Cluster) : Type 0 where
  pub strips : ℕ
  pub rest : List ℕ
  pub bytes : xs ≡ c.address ∷ strips ∷ rest
  pub within : strips ≤ length rest
  pub values : c.values ≡ take strips rest
  pub in_place : placed (run_of c) ≡ true
  pub in_order : behind b (run_of c) ≡ true
  pub all_in : 2 + length c.values ≤ length xs

pub cluster_at : (b : Option Run) (at : ℕ) (xs : List ℕ) (c : Cluster) → read_cluster b at xs ≡ Ok c → ClusterAt b xs c
cluster_at b at [] c h = absurd (err_ok _ c h)
cluster_at b at (a ∷ []) c h = absurd (err_ok _ c h)
cluster_at b at (a ∷ n ∷ xs) c h =
    let run : Run = record { address = a; strips = n } in
    let d : Cluster = record { address = a; values = take n xs } in
    let one = ask_ok (placed run) (clusters.BadLength at) _ c h in
    let two = ask_ok (leb n (length xs)) (clusters.DataOutside at) _ c one.1 in
    let three = ask_ok (behind b run) (clusters.OutOfOrder at) (Ok d) c two.1 in
    let n≤ : n ≤ length xs = leb-true n (length xs) two.0 in
    let len : length (take n xs) ≡ n = length-take-le n xs n≤ in
    let same : d ≡ c = ok_same d c three.1 in
    let runs : run ≡ run_of d = ap (λ (k : ℕ). record { address = a; strips = k }) (sym len) in
    subst
    (λ (c : Cluster). ClusterAt b (a ∷ n ∷ xs) c)
    same
    (record {
      strips = n;
      rest = xs;
      bytes = refl;
      within = n≤;
      values = refl;
      in_place = subst (λ (r : Run). placed r ≡ true) runs one.0;
      in_order = subst (λ (r : Run). behind b r ≡ true) runs three.0;
      all_in = omega arith;
    })

-- a cluster is passed over with all its bytes, and the next one is asked to lie behind it
pub next_cluster :
    (b : Option Run) (at : ℕ) (xs : List ℕ) (c : Cluster) →
    read_cluster b at xs ≡ Ok c →
    (2 + length c.values ≤ length xs)
    × (read_clusters 0 b at xs
    ≡ ok_map (λ cs. c ∷ cs) (read_clusters 0 (Some (run_of c)) (at + (2 + length c.values)) (drop (2 + length c.values) xs)))
next_cluster b at [] c h = absurd (err_ok _ c h)
next_cluster b at (x ∷ xs) c h =
    let inside : 2 + length c.values ≤ suc (length xs) = (cluster_at b at (x ∷ xs) c h).all_in in
    let m : ℕ = length c.values in
    let short : 1 + m ≤ length xs = omega arith in
    let offset : at + 1 + (1 + m) ≡ at + (2 + m) = omega arith in
    let more : suc (1 + m) ≡ 2 + m = omega arith in (
      inside,
      ap
          (λ (r : Result Cluster ClusterFault). and_then r
          (λ d. ok_map (λ cs. d ∷ cs) (read_clusters (1 + length d.values) (Some (run_of d)) (at + 1) xs)))
          h
          ∙ ap
          (ok_map (λ (cs : List Cluster). c ∷ cs))
          (skip_clusters (1 + m) (Some (run_of c)) (at + 1) xs short
          ∙ ap₂ (λ (i k : ℕ). read_clusters 0 (Some (run_of c)) i (drop k (x ∷ xs))) offset more),
    )

-- bytes that belong to the event before are passed over
pub skip_run : (n at : ℕ) (xs : List ℕ) → n ≤ length xs → survey n at xs ≡ survey 0 (at + n) (drop n xs)
skip_run zero at xs h = ap (λ (i : ℕ). survey 0 i xs) (sym (add-zero at))
skip_run (suc n) at [] h = absurd (not-suc-le-zero h)
skip_run (suc n) at (x ∷ xs) h =
    let e : at + 1 + n ≡ at + suc n = omega arith in
    let k : n ≤ length xs = omega arith in
    skip_run n (at + 1) xs k ∙ ap (λ (i : ℕ). survey 0 i (drop n xs)) e

-- a record that was read: its code is known and that of fibre 0, its length is in range, and its bytes are there
pub record RecordAt (first : Option ℕ) (at n c : ℕ) (xs : List ℕ) (content : Content) : Type 0 where
  pub kind : Kind
  pub known : kind_of c ≡ Some kind
  pub same : same_code first c ≡ true
  pub from_shortest : shortest kind ≤ n
  pub to_longest : n ≤ longest kind
  pub inside : n ≤ 3 + length xs
  pub read : read_content kind (at + 3) (take (n - 3) xs) ≡ Ok content

-- what a record that was read says of its header and its bytes
pub record_at :
    (first : Option ℕ) (at n c : ℕ) (xs : List ℕ) (content : Content) →
    read_record first at n c xs ≡ Ok content →
    RecordAt first at n c xs content
record_at first at n c xs content h = go (kind_of c) refl h
  where
    after : Kind → Result Content RecordFault
    after k = ask (same_code first c) (records.OtherKind (at + 2)) (read_body k at n xs)

    go :
        (o : Option Kind) →
        kind_of c ≡ o →
        ◌≡◌ {A = Result Content RecordFault} (elim o [ None ↦ Err (records.UnknownCode (at + 2)) | Some k ↦ after k ]) (Ok content) →
        RecordAt first at n c xs content
    go None e h = absurd (err_ok _ content h)
    go (Some k) e h =
        let one = ask_ok (same_code first c) (records.OtherKind (at + 2)) _ content h in
        let two = ask_ok (leb (shortest k) n && leb n (longest k)) (records.LengthRange at) _ content one.1 in
        let three = ask_ok (leb n (3 + length xs)) (records.Outside at) _ content two.1 in
        let range = and_parts (leb (shortest k) n) (leb n (longest k)) two.0 in
        record {
          kind = k;
          known = e;
          same = one.0;
          from_shortest = leb-true (shortest k) n range.0;
          to_longest = leb-true n (longest k) range.1;
          inside = leb-true n (3 + length xs) three.0;
          read = three.1;
        }

-- the first of suc n records, and the walk over the others
pub record RecordsAt (n : ℕ) (first : Option ℕ) (at : ℕ) (xs : List ℕ) (w : Walked) : Type 0 where
  pub low : ℕ
  pub high : ℕ
  pub code : ℕ
  pub rest : List ℕ
  pub bytes : xs ≡ low ∷ high ∷ code ∷ rest
  pub content : Content
  pub head : RecordAt first at (number_in low high) code rest content
  pub others : Walked
  pub tail : read_records n (Some code) (at + number_in low high) (drop (number_in low high - 3) rest) ≡ Ok others
  pub both : with_content content others ≡ w

-- the walk over records, taken apart at the first one
pub records_at :
    (n : ℕ) (first : Option ℕ) (at : ℕ) (xs : List ℕ) (w : Walked) → read_records (suc n) first at xs ≡ Ok w → RecordsAt n first at xs w
records_at n first at [] w h = absurd (err_ok _ w h)
records_at n first at (x ∷ []) w h = absurd (err_ok _ w h)
records_at n first at (x ∷ y ∷ []) w h = absurd (err_ok _ w h)
records_at n first at (lo ∷ hi ∷ c ∷ xs) w h =
    let one = and_then_ok (err_map events.Record (read_record first at (number_in lo hi) c xs)) _ w h in
    let two = err_map_ok events.Record (read_record first at (number_in lo hi) c xs) one.0 one.1 in
    let three =
    ok_map_ok (with_content one.0) (read_records n (Some c) (at + number_in lo hi) (drop (number_in lo hi - 3) xs)) w one.2 in
    record {
      low = lo;
      high = hi;
      code = c;
      rest = xs;
      bytes = refl;
      content = one.0;
      head = record_at first at (number_in lo hi) c xs one.0 two;
      others = three.0;
      tail = three.1;
      both = three.2;
    }

-- no record is shorter than seven bytes
pub seven : (k : Kind) → 7 ≤ shortest k
seven ZeroSuppressed = omega arith
seven ProcessedRaw = omega arith
seven VirginRaw = omega arith

-- each record has at least seven bytes, and the walk stays within the input
pub records_end :
    (n : ℕ) (first : Option ℕ) (at : ℕ) (xs : List ℕ) (w : Walked) →
    read_records n first at xs ≡ Ok w →
    (at + 7 * n ≤ w.end) × (w.end ≤ at + length xs)
records_end zero first at xs w h =
    let e : at ≡ w.end = ap (λ (v : Walked). v.end) (ok_same (record { contents = []; end = at }) w h) in (omega arith, omega arith)
records_end (suc n) first at xs w h =
    let r = records_at n first at xs w h in
    let size : ℕ = number_in r.low r.high in
    let below = records_end n (Some r.code) (at + size) (drop (size - 3) r.rest) r.others r.tail in
    let end : r.others.end ≡ w.end = ap (λ (v : Walked). v.end) r.both in
    let least : 7 ≤ size = le_trans (seven r.head.kind) r.head.from_shortest in
    let inside : size ≤ 3 + length r.rest = r.head.inside in
    let left : length (drop (size - 3) r.rest) ≡ length r.rest - (size - 3) = length-drop (size - 3) r.rest in
    let whole : length xs ≡ suc (suc (suc (length r.rest))) = ap length r.bytes in
    (steps at size n w.end (length r.rest) (length xs) (length (drop (size - 3) r.rest)) least inside left whole
    (le_trans below.0 (le_of_eq end)) (le_trans (le_of_eq (sym end)) below.1))
  where
    steps :
        (at size n end rest whole left : ℕ) →
        7 ≤ size →
        size ≤ 3 + rest →
        left ≡ rest - (size - 3) →
        whole ≡ suc (suc (suc rest)) →
        at + size + 7 * n ≤ end →
        end ≤ at + size + left →
        (at + 7 * suc n ≤ end) × (end ≤ at + whole)
    steps at size n end rest whole left a b c d e f = (omega arith, omega arith)

-- an event that was read has bytes, and they are there
pub first_within :
    (xs : List ℕ) (e : Event) (n : ℕ) → read_first xs ≡ Ok (e, n) → (0 < n) × (n ≤ length xs)
first_within xs e n h =
    let one = ok_map_ok (λ (w : Walked). (event_from xs w, w.end)) (read_records 12 None 0 xs) (e, n) h in
    let bounds = records_end 12 None 0 xs one.0 one.1 in
    let end : one.0.end ≡ n = ap (λ (p : Event × ℕ). p.1) one.2 in
    (omega (arith, bounds.0), omega (arith, bounds.1))

-- where a walk goes from its first event on, or ends
abbrev after_first : ℕ → List ℕ → Result (Event × ℕ) EventFault → Survey
after_first at xs r =
    elim r [
      | Ok p ↦ with_event p.0 (survey (p.1 - 1) (at + 1) xs)
      | Err f ↦ record { events = []; end = at; fault = Some f }
    ]

-- an event is passed over with all its bytes, and the walk goes on behind it
pub next_event :
    (at : ℕ) (xs : List ℕ) (e : Event) (n : ℕ) →
    read_first xs ≡ Ok (e, n) →
    (0 < n) × (n ≤ length xs) × (survey 0 at xs ≡ with_event e (survey 0 (at + n) (drop n xs)))
next_event at [] e n h = absurd (err_ok _ (e, n) h)
next_event at (x ∷ xs) e n h =
    let within = first_within (x ∷ xs) e n h in
    let most : n ≤ suc (length xs) = within.1 in
    let least : 0 < n = within.0 in
    let short : n - 1 ≤ length xs = omega arith in
    let offset : at + 1 + (n - 1) ≡ at + n = omega arith in
    let more : suc (n - 1) ≡ n = omega arith in (
      least,
      most,
      ap
          (after_first at xs)
          h
          ∙ ap
          (with_event e)
          (skip_run (n - 1) (at + 1) xs short
          ∙ ap₂ (λ (i k : ℕ). survey 0 i (drop k (x ∷ xs))) offset more),
    )

-- no event stands at the front: the walk ends there
pub no_event : (at : ℕ) (x : ℕ) (xs : List ℕ) (f : EventFault) → read_first (x ∷ xs) ≡ Err f → survey 0 at (x ∷ xs) ≡ record { events = []; end = at; fault = Some f }
no_event at x xs f h = ap (after_first at xs) h
