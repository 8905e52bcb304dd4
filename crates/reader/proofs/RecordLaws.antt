-- The records of an event: what is written is read back, and what was read is what would be written.
-- Assumes nothing.
use Rattle.std.proofs.Common.{◌≡◌, ℕ, zero, suc, ◌+◌, ◌-◌, ◌/◌, ◌%◌, ◌≤◌, Bool, true, false, cond, ◌&&◌, eqb, leb, List, [], ◌∷◌, ◌++◌, length, take, drop, Some, None, Ok, Err, Option, Result, sym, refl, ap, ◌∙◌, subst, ap₂, append_assoc, le_trans, le_of_eq, add-zero, arith, length-append, take-append-drop}
use Rattle.std.proofs.lemmas.Bool.{eqb-true, eq-eqb, le-leb, and_from}
use Rattle.std.proofs.lemmas.List.{length-take-le, take_at, drop_at}
use Rattle.std.proofs.ByRecursion.{All-take, All-drop}
use Rattle.std.specs.List.{flat_map, AllByRecursion}
use Rattle.layout.specs.declared.kind.Kind.{Kind}
use Rattle.layout.specs.declared.kind.Kind.TheVariants.{ZeroSuppressed, ProcessedRaw, VirginRaw}
use Rattle.layout.specs.Event.{Byte, Content, ContentOk, code, shortest, longest, word, content_bytes, record_bytes}
use Rattle.layout.specs.Lengths.{record_in_range}
use Rattle.faults.specs.declared.fault.RecordFault.{RecordFault}
use Rattle.faults.specs.declared.fault.RecordFault.TheVariants as records
use Rattle.faults.specs.declared.fault.EventFault.TheVariants as events
use Rattle.reader.specs.Questions.{ok_map, err_map, and_then, ask, number_in, kind_of, same_code, read_content, read_body, read_record, Walked, with_content, read_records}
use Rattle.reader.proofs.Asks.{none_some, some_same, ok_same, ask_yes}
use Rattle.reader.proofs.Walk.{RecordAt, RecordsAt, records_at, seven}
use Rattle.reader.proofs.WordLaws.{word_of_number, number_of_word}
use Rattle.reader.proofs.ContentLaws.{content_sound, content_complete}

-- the packet code of a kind is known as that of the kind
pub known_code : (k : Kind) → kind_of (code k) ≡ Some k
known_code ZeroSuppressed = refl
known_code ProcessedRaw = refl
known_code VirginRaw = refl

-- a code that is known is that of its kind
pub code_known : (c : ℕ) (k : Kind) → kind_of c ≡ Some k → c ≡ code k
code_known c k h =
    go (eqb c (code ZeroSuppressed)) (eqb c (code ProcessedRaw)) (eqb c (code VirginRaw)) (eqb-true c _) (eqb-true c _) (eqb-true c _) h
  where
    go :
        (p q r : Bool) →
        (p ≡ true → c ≡ code ZeroSuppressed) →
        (q ≡ true → c ≡ code ProcessedRaw) →
        (r ≡ true → c ≡ code VirginRaw) →
        cond p (Some ZeroSuppressed) (cond q (Some ProcessedRaw) (cond r (Some VirginRaw) None)) ≡ Some k →
        c ≡ code k
    go true q r x y z h = x refl ∙ ap code (some_same ZeroSuppressed k h)
    go false true r x y z h = y refl ∙ ap code (some_same ProcessedRaw k h)
    go false false true x y z h = z refl ∙ ap code (some_same VirginRaw k h)
    go false false false x y z h = absurd (none_some k h)

-- the length that a record opens with counts all of it
pub length_record : (k : Kind) (c : Content) → length (record_bytes k c) ≡ 3 + length (content_bytes c)
length_record k c = omega arith

-- the record at the front: its content is one of its kind, and its bytes are the first that are there
pub record RecordOk (k : Kind) (n : ℕ) (bytes rest : List ℕ) (c : Content) : Type 0 where
  pub content : ContentOk k c
  pub split : record_bytes k c ++ drop (n - 3) rest ≡ bytes
  pub size : length (record_bytes k c) ≡ n

-- a record that was read
pub record_sound :
    (first : Option ℕ) (at lo hi x : ℕ) (xs : List ℕ) (c : Content) (r : RecordAt first at (number_in lo hi) x xs c) →
    AllByRecursion Byte (lo ∷ hi ∷ x ∷ xs) →
    RecordOk r.kind (number_in lo hi) (lo ∷ hi ∷ x ∷ xs) xs c
record_sound first at lo hi x xs c r bytes =
    let k : Kind = r.kind in
    let n : ℕ = number_in lo hi in
    let least : 7 ≤ n = le_trans (seven k) r.from_shortest in
    let inside : n ≤ 3 + length xs = r.inside in
    let room : n - 3 ≤ length xs = omega arith in
    let part : length (take (n - 3) xs) ≡ n - 3 = length-take-le (n - 3) xs room in
    let whole : n ≡ 3 + length (take (n - 3) xs) = omega arith in
    let found =
    content_sound k (at + 3) (take (n - 3) xs) c (le_trans r.from_shortest (le_of_eq whole))
    (le_trans (le_of_eq (sym whole)) r.to_longest)
    (All-take Byte (n - 3) xs bytes.1.1.1)
    r.read in
    let long : 3 + length (content_bytes c) ≡ n = ap (λ (ys : List ℕ). 3 + length ys) found.1 ∙ sym whole in
    let header : word (3 + length (content_bytes c)) ≡ lo ∷ hi ∷ [] = ap word long ∙ word_of_number lo hi bytes.0 in
    record {
      content = found.0;
      split =
          ap₂ (λ (a b : List ℕ). (a ++ code k ∷ b) ++ drop (n - 3) xs) header found.1
          ∙ ap₂ (λ (y : ℕ) (ys : List ℕ). lo ∷ hi ∷ y ∷ ys) (sym (code_known x k r.known)) (take-append-drop (n - 3) xs);
      size = length_record k c ∙ long;
    }

-- n records of one kind, and what lies behind them
pub record RecordsOk (k : Kind) (n at : ℕ) (xs : List ℕ) (w : Walked) : Type 0 where
  pub count : length w.contents ≡ n
  pub content : AllByRecursion (ContentOk k) w.contents
  pub rest : List ℕ
  pub split : flat_map (record_bytes k) w.contents ++ rest ≡ xs
  pub end : at + length (flat_map (record_bytes k) w.contents) ≡ w.end

-- one record more
pub one_more :
    (k : Kind) (n : ℕ) (first : Option ℕ) (at : ℕ) (xs : List ℕ) (w : Walked) (r : RecordsAt n first at xs w) →
    r.head.kind ≡ k →
    AllByRecursion Byte xs →
    RecordsOk k n (at + number_in r.low r.high) (drop (number_in r.low r.high - 3) r.rest) r.others →
    RecordsOk k (suc n) at xs w
one_more k n first at xs w r kind bytes below =
    let size : ℕ = number_in r.low r.high in
    let here : List ℕ = r.low ∷ r.high ∷ r.code ∷ r.rest in
    let first_ok : RecordOk k size here r.rest r.content =
    subst
    (λ (k : Kind). RecordOk k size here r.rest r.content)
    kind
    (record_sound first at r.low r.high r.code r.rest r.content r.head
    (subst (λ (ys : List ℕ). AllByRecursion Byte ys) r.bytes bytes)) in
    let front : List ℕ = record_bytes k r.content in
    let others : List ℕ = flat_map (record_bytes k) r.others.contents in
    let long : length (front ++ others) ≡ length front + length others = length-append front others in
    let is_size : length front ≡ size = first_ok.size in
    let end : at + size + length others ≡ r.others.end = below.end in
    subst
    (λ (w : Walked). RecordsOk k (suc n) at xs w)
    r.both
    (record {
      count = ap suc below.count;
      content = (first_ok.content, below.content);
      rest = below.rest;
      split =
          append_assoc front others below.rest
          ∙ ap (λ (ys : List ℕ). front ++ ys) below.split
          ∙ first_ok.split
          ∙ sym r.bytes;
      end = shift at size (length front) (length others) (length (front ++ others)) r.others.end long is_size end;
    })
  where
    shift :
        (at size front others both end : ℕ) → both ≡ front + others → front ≡ size → at + size + others ≡ end → at + both ≡ end
    shift at size front others both end a b c = omega arith

-- behind a first record of a kind, all are of that kind
pub records_sound :
    (k : Kind) (n at : ℕ) (xs : List ℕ) (w : Walked) →
    AllByRecursion Byte xs →
    read_records n (Some (code k)) at xs ≡ Ok w →
    RecordsOk k n at xs w
records_sound k zero at xs w bytes h =
    subst
    (λ (w : Walked). RecordsOk k zero at xs w)
    (ok_same (record { contents = []; end = at }) w h)
    (record { count = refl; content = tt; rest = xs; split = refl; end = add-zero at })
records_sound k (suc n) at xs w bytes h =
    let r = records_at n (Some (code k)) at xs w h in
    let size : ℕ = number_in r.low r.high in
    let same : r.code ≡ code k = sym (eqb-true (code k) r.code r.head.same) in
    let kind : r.head.kind ≡ k = some_same r.head.kind k (sym r.head.known ∙ ap kind_of same ∙ known_code k) in
    let behind : AllByRecursion Byte (r.low ∷ r.high ∷ r.code ∷ r.rest) = subst (λ (ys : List ℕ). AllByRecursion Byte ys) r.bytes bytes in
    one_more k n (Some (code k)) at xs w r kind bytes
    (records_sound k n (at + size) (drop (size - 3) r.rest) r.others (All-drop Byte (size - 3) r.rest behind.1.1.1)
    (ap (λ (x : ℕ). read_records n (Some x) (at + size) (drop (size - 3) r.rest)) (sym same) ∙ r.tail))

-- a record is read back, whatever follows
pub record_complete :
    (k : Kind) (c : Content) (first : Option ℕ) (at : ℕ) (rest : List ℕ) →
    ContentOk k c →
    same_code first (code k) ≡ true →
    read_record first at (3 + length (content_bytes c)) (code k) (content_bytes c ++ rest) ≡ Ok c
record_complete k c first at rest ok same =
    let body : List ℕ = content_bytes c in
    let n : ℕ = 3 + length body in
    let range = record_in_range k c ok in
    let room : n ≤ 3 + length (body ++ rest) = omega (arith, length-append body rest) in
    let back : length body ≡ n - 3 = omega arith in
    ap after (known_code k)
    ∙ ask_yes (same_code first (code k)) (records.OtherKind (at + 2)) _ c same
    (ask_yes (leb (shortest k) n && leb n (longest k)) (records.LengthRange at) _ c
    (and_from (leb (shortest k) n) (leb n (longest k)) (le-leb (shortest k) n range.0) (le-leb n (longest k) range.1))
    (ask_yes (leb n (3 + length (body ++ rest))) (records.Outside at) _ c (le-leb n (3 + length (body ++ rest)) room)
    (ap (read_content k (at + 3)) (take_at body rest (n - 3) back) ∙ content_complete k (at + 3) c ok)))
  where
    after : Option Kind → Result Content RecordFault
    after o =
        elim o [
          | None ↦ Err (records.UnknownCode (at + 2))
          | Some k₁ ↦ ask (same_code first (code k)) (records.OtherKind (at + 2))
              (read_body k₁ at (3 + length (content_bytes c)) (content_bytes c ++ rest))
        ]

-- a record is passed over with all its bytes, and the walk goes on behind it
pub next_record :
    (n : ℕ) (first : Option ℕ) (at lo hi x : ℕ) (xs : List ℕ) (c : Content) →
    read_record first at (number_in lo hi) x xs ≡ Ok c →
    read_records (suc n) first at (lo ∷ hi ∷ x ∷ xs)
    ≡ ok_map (with_content c) (read_records n (Some x) (at + number_in lo hi) (drop (number_in lo hi - 3) xs))
next_record n first at lo hi x xs c h =
    ap
    (λ (r : Result Content RecordFault). and_then (err_map events.Record r)
    (λ d. ok_map (with_content d) (read_records n (Some x) (at + number_in lo hi) (drop (number_in lo hi - 3) xs))))
    h

-- records of one kind are read back, whatever follows
pub records_complete :
    (k : Kind) (cs : List Content) (first : Option ℕ) (at : ℕ) (rest : List ℕ) →
    AllByRecursion (ContentOk k) cs →
    same_code first (code k) ≡ true →
    read_records (length cs) first at (flat_map (record_bytes k) cs ++ rest)
    ≡ Ok (record { contents = cs; end = at + length (flat_map (record_bytes k) cs) })
records_complete k [] first at rest ok same = ap (λ (i : ℕ). Ok (record { contents = []; end = i })) (sym (add-zero at))
records_complete k (c ∷ cs) first at rest ok same =
    let body : List ℕ = content_bytes c in
    let others : List ℕ = flat_map (record_bytes k) cs in
    let n : ℕ = 3 + length body in
    let lo : ℕ = n % 256 in
    let hi : ℕ = n / 256 in
    let size : number_in lo hi ≡ n = number_of_word n in
    let back : length body ≡ n - 3 = omega arith in
    let regroup : (body ++ others) ++ rest ≡ body ++ (others ++ rest) = append_assoc body others rest in
    let long : length (body ++ others) ≡ length body + length others = length-append body others in
    let end : at + n + length others ≡ at + suc (suc (suc (length (body ++ others)))) = omega arith in
    ap (λ (ys : List ℕ). read_records (suc (length cs)) first at (lo ∷ hi ∷ code k ∷ ys)) regroup
    ∙ next_record (length cs) first at lo hi (code k) (body ++ (others ++ rest)) c
    (ap (λ (i : ℕ). read_record first at i (code k) (body ++ (others ++ rest))) size
    ∙ record_complete k c first at (others ++ rest) ok.0 same)
    ∙ ap
    (λ (i : ℕ). ok_map (with_content c) (read_records (length cs) (Some (code k)) (at + i) (drop (i - 3) (body ++ (others ++ rest)))))
    size
    ∙ ap
    (λ (ys : List ℕ). ok_map (with_content c) (read_records (length cs) (Some (code k)) (at + n) ys))
    (drop_at body (others ++ rest) (n - 3) back)
    ∙ ap
    (ok_map (with_content c))
    (records_complete k cs (Some (code k)) (at + n) rest ok.1 (eq-eqb (code k) (code k) refl))
    ∙ ap (λ (i : ℕ). Ok (record { contents = c ∷ cs; end = i })) end
