-- Records one after the other are cut where they were joined.
-- Assumes nothing.
use Rattle.std.proofs.Common.{◌≡◌, ℕ, zero, suc, ◌+◌, ◌-◌, ◌/◌, ◌%◌, ◌<◌, ◌≤◌, ◌⊎◌, inl, inr, true, leb, ltb, List, [], ◌∷◌, ◌++◌, map, length, get_or, take, drop, Some, None, Ok, Err, Option, Result, is_ok, MatchResult, sym, refl, ap, ◌∙◌, subst, ap₂, arith, length-append}
use Rattle.std.proofs.ByRecursion.{All-get_or, All-take}
use Rattle.std.proofs.lemmas.Bool.{le-leb, ltb-true, lt-ltb, and_parts, and_from, cond-true, false≢true}
use Rattle.std.proofs.lemmas.List.{take_at, drop_at, length-map}
use Rattle.std.proofs.lemmas.Option.{slice_get-map, slice_get_cases}
use Rattle.std.specs.List.{slice_get, flat_map, AllByRecursion}
use Rattle.std.specs.Option.{option_map, ok_or}
use Rattle.terms.specs.declared.refusal.Refusal.TheVariants.{NoSuchFibre}
use Rattle.layout.specs.declared.kind.Kind.{Kind}
use Rattle.layout.specs.declared.kind.Kind.TheVariants.{ZeroSuppressed, ProcessedRaw, VirginRaw}
use Rattle.layout.specs.Event.{Byte, Content, suppressed, words, ContentOk, Event, EventOk, code, content_bytes, record_bytes, bytes_of}
use Rattle.faults.specs.declared.fault.EventFault.{EventFault}
use Rattle.reader.specs.declared.event.Event as events
use Rattle.reader.specs.declared.record.Record as parts
use Rattle.reader.specs.Asked.{HasContent, RecordOf}
use Rattle.reader.specs.Items.{all_bytes, content_in, contents_from, contents_in, event_in}
use Rattle.reader.specs.Laws.{StandsFor}
use Rattle.reader.specs.Parts.{content_of, record_value, value_of, Holds}
use Rattle.reader.specs.Questions.{number_in, kind_of, read_event}
use Rattle.reader.proofs.Asks.{none_some, some_same}
use Rattle.reader.proofs.EventLaws.{exactly_the_layout}
use Rattle.reader.proofs.ItemLaws.{clusters_back, words_back}
use Rattle.reader.proofs.RecordLaws.{known_code}
use Rattle.reader.proofs.WordLaws.{number_of_word}

-- bytes that belong to the record before are passed over
skip_bytes : (k : Kind) (n : ℕ) (xs : List ℕ) → contents_from k n xs ≡ contents_in k (drop n xs)
skip_bytes k zero xs = refl
skip_bytes k (suc n) [] = refl
skip_bytes k (suc n) (x ∷ xs) = skip_bytes k n xs

-- a record at the front of some bytes, cut from what lies behind it
pub record CutAt (xs content rest : List ℕ) (n : ℕ) : Type 0 where
  pub header : 3 ≤ length xs
  pub size : n ≡ number_in (get_or xs 0 0) (get_or xs 1 0) - 3
  pub fits : n ≤ length (drop 3 xs)
  pub front : content ≡ take n (drop 3 xs)
  pub back : rest ≡ drop n (drop 3 xs)

pub one_record : (k : Kind) (xs content rest : List ℕ) (n : ℕ) → CutAt xs content rest n → contents_in k xs ≡ content_in k content ∷ contents_in k rest
one_record k [] content rest n cut = let h = cut.header in absurd (omega arith)
one_record k (x ∷ []) content rest n cut = let h = cut.header in absurd (omega arith)
one_record k (x ∷ y ∷ []) content rest n cut = let h = cut.header in absurd (omega arith)
one_record k (lo ∷ hi ∷ c ∷ xs) content rest n cut =
    let m : ℕ = number_in lo hi - 3 in
    let whole : m ≤ length xs = subst (λ i. i ≤ length xs) cut.size cut.fits in
    let taken : take m xs ≡ content = ap (λ i. take i xs) (sym cut.size) ∙ sym cut.front in
    let left : contents_from k m xs ≡ contents_in k rest = skip_bytes k m xs ∙ ap (contents_in k) (ap (λ i. drop i xs) (sym cut.size) ∙ sym cut.back) in
    cond-true (leb m (length xs)) _ _ (le-leb m (length xs) whole) ∙ ap₂ (λ v vs. content_in k v ∷ vs) taken left

abbrev pub with_kind : Kind → List Content → List (Kind × Content)
with_kind k cs = map (λ c. (k, c)) cs

pub one_fewer : (k : Kind) (xs content rest : List ℕ) (n : ℕ) → CutAt xs content rest n → length (with_kind k (contents_in k rest)) < length (with_kind k (contents_in k xs))
one_fewer k xs content rest n cut =
    let given : length (contents_in k xs) ≡ suc (length (contents_in k rest)) = ap length (one_record k xs content rest n cut) in
    let pair : Content → Kind × Content = λ c. (k, c) in
    omega (arith, given, length-map (contents_in k xs) pair, length-map (contents_in k rest) pair)

-- where the bytes are whole records, so are both parts
pub both_whole :
    (k : Kind) (xs content rest : List ℕ) (n : ℕ) →
    CutAt xs content rest n →
    flat_map (record_bytes k) (contents_in k xs) ≡ xs →
    (content_bytes (content_in k content) ≡ content) × (flat_map (record_bytes k) (contents_in k rest) ≡ rest)
both_whole k xs content rest n cut whole =
    let body : List ℕ = content_bytes (content_in k content) in
    let others : List ℕ = flat_map (record_bytes k) (contents_in k rest) in
    let joined : record_bytes k (content_in k content) ++ others ≡ xs = ap (flat_map (record_bytes k)) (sym (one_record k xs content rest n cut)) ∙ whole in
    let said : number_in (get_or xs 0 0) (get_or xs 1 0) ≡ 3 + length body = ap (λ ys. number_in (get_or ys 0 0) (get_or ys 1 0)) (sym joined) ∙ number_of_word (3 + length body) in
    let behind : drop 3 xs ≡ body ++ others = ap (drop 3) (sym joined) in
    let end : length body ≡ n = omega (arith, said, cut.size) in
    (sym (take_at body others n end) ∙ (ap (take n) (sym behind) ∙ sym cut.front), sym (drop_at body others n end) ∙ (ap (drop n) (sym behind) ∙ sym cut.back))

-- a content that was written is the content of its bytes
pub content_back : (k : Kind) (c : Content) → ContentOk k c → content_in k (content_bytes c) ≡ c
content_back ZeroSuppressed (suppressed m cs) ok =
    let modes : record { left = number_in (m.left % 256) (m.left / 256); right = number_in (m.right % 256) (m.right / 256) } ≡ m = ap₂ (λ (a b : ℕ). record { left = a; right = b }) (number_of_word m.left) (number_of_word m.right) in
    ap₂ suppressed modes (clusters_back cs)
content_back ZeroSuppressed (words ws) ok = absurd ok
content_back ProcessedRaw (suppressed m cs) ok = absurd ok
content_back ProcessedRaw (words ws) ok = ap words (words_back ws)
content_back VirginRaw (suppressed m cs) ok = absurd ok
content_back VirginRaw (words ws) ok = ap words (words_back ws)

contents_back : (k : Kind) (cs : List Content) → AllByRecursion (ContentOk k) cs → contents_in k (flat_map (record_bytes k) cs) ≡ cs
contents_back k [] ok = refl
contents_back k (c ∷ cs) ok =
    let body : List ℕ = content_bytes c in
    let others : List ℕ = flat_map (record_bytes k) cs in
    let n : ℕ = length body in
    let said : number_in ((3 + n) % 256) ((3 + n) / 256) ≡ 3 + n = number_of_word (3 + n) in
    let cut : CutAt (record_bytes k c ++ others) body others n = record {
      header = omega arith;
      size = omega (arith, said);
      fits = omega (arith, length-append body others);
      front = sym (take_at body others n refl);
      back = sym (drop_at body others n refl);
    } in
    one_record k (record_bytes k c ++ others) body others n cut ∙ ap₂ (λ d ds. d ∷ ds) (content_back k c ok.0) (contents_back k cs ok.1)

-- an event that was written is the event of its bytes
pub event_back : (v : Event) → EventOk v → event_in v.kind (bytes_of v) ≡ v
event_back v ok = ap (λ cs. record { kind = v.kind; contents = cs }) (contents_back v.kind v.contents ok.1)

-- the packet code of fibre 0
pub code_byte : (k : Kind) (cs : List Content) → length cs ≡ 12 → get_or (flat_map (record_bytes k) cs) 2 0 ≡ code k
code_byte k [] h = absurd (omega arith)
code_byte k (c ∷ cs) h = refl

pub same_kind : (j k : Kind) → code j ≡ code k → j ≡ k
same_kind j k h = some_same j k (sym (known_code j) ∙ (ap kind_of h ∙ known_code k))

pub bytes_from : (bs : List ℕ) → all_bytes bs ≡ true → AllByRecursion Byte bs
bytes_from [] h = tt
bytes_from (b ∷ bs) h = let p = and_parts (ltb b 256) (all_bytes bs) h in (ltb-true b 256 p.0, bytes_from bs p.1)

pub bytes_fit : (bs : List ℕ) → AllByRecursion Byte bs → all_bytes bs ≡ true
bytes_fit [] h = refl
bytes_fit (b ∷ bs) h = and_from (ltb b 256) (all_bytes bs) (lt-ltb b 256 h.0) (bytes_fit bs h.1)

-- the event that accepted bytes stand for
pub stands : (bs : List ℕ) (k : Kind) → all_bytes bs ≡ true → is_ok (read_event bs) ≡ true → code k ≡ get_or bs 2 0 → StandsFor bs (event_in k bs)
stands bs k fit ok said = go (read_event bs) refl
  where
    go : (r : Result Event EventFault) → read_event bs ≡ r → StandsFor bs (event_in k bs)
    go (Ok v) e =
        let s : StandsFor bs v = (exactly_the_layout bs v (bytes_from bs fit)).0 e in
        let kind : k ≡ v.kind = same_kind k v.kind (said ∙ (ap (λ ys. get_or ys 2 0) (sym s.1) ∙ code_byte v.kind v.contents s.0.0)) in
        let same : event_in k bs ≡ v = ap₂ event_in kind (sym s.1) ∙ event_back v s.0 in
        subst (λ d. StandsFor bs d) (sym same) s
    go (Err f) e = absurd (false≢true (ap is_ok (sym e) ∙ ok))

-- the only event that an event can hold is its own
pub one_event : (e : events.Event) (v : Event) → Holds e v → value_of e ≡ v
one_event e v h = ap₂ event_in h.1 (sym h.0.1) ∙ event_back v h.0.0

-- and so with the content of a record
pub one_content : (r : parts.Record) (k : Kind) (c : Content) → HasContent r k c → content_of r ≡ c
one_content r k c h = ap₂ content_in h.kind h.bytes ∙ content_back k c h.ok

-- the record of an index, or none past the twelve
pub record_there :
    (e : events.Event) (o : Option parts.Record) (i : ℕ) →
    StandsFor e.bytes.now (value_of e) →
    option_map record_value o ≡ slice_get (map (λ c. (e.kind, c)) (value_of e).contents) i →
    MatchResult (ok_or o NoSuchFibre) (RecordOf e i) (λ f. (12 ≤ i) × (f ≡ NoSuchFibre))
record_there e o i s nth = go o (slice_get_cases (value_of e).contents i).1 (nth ∙ slice_get-map (λ c. (e.kind, c)) (value_of e).contents i)
  where
    Cases : Type 0
    Cases = ((x : Content) × (i < length (value_of e).contents) × (slice_get (value_of e).contents i ≡ Some x) × (get_or (value_of e).contents i x ≡ x)) ⊎ ((length (value_of e).contents ≤ i) × (slice_get (value_of e).contents i ≡ None))

    go : (o : Option parts.Record) → Cases → option_map record_value o ≡ option_map (λ c. (e.kind, c)) (slice_get (value_of e).contents i) → MatchResult (ok_or o NoSuchFibre) (RecordOf e i) (λ f. (12 ≤ i) × (f ≡ NoSuchFibre))
    go None (inl w) h = absurd (none_some (e.kind, w.0) (h ∙ ap (option_map (λ c. (e.kind, c))) w.2))
    go None (inr past) h = (omega (arith, past.0, s.0.0), refl)
    go (Some r) (inl w) h =
        let same = some_same (record_value r) (e.kind, w.0) (h ∙ ap (option_map (λ c. (e.kind, c))) w.2) in
        let content : content_of r ≡ w.0 = ap (λ p. p.1) same in
        let ok : ContentOk e.kind w.0 = subst (ContentOk e.kind) w.3 (All-get_or (ContentOk e.kind) (value_of e).contents i w.0 w.1 s.0.1) in
        record {
          there = w.2 ∙ ap Some (sym content);
          has = record { kind = ap (λ p. p.0) same; bytes = sym r.whole; ok = subst (ContentOk e.kind) (sym content) ok };
        }
    go (Some r) (inr past) h = absurd (none_some (record_value r) (sym (h ∙ ap (option_map (λ c. (e.kind, c))) past.1)))

-- what is kept of an event that was found at the front of an input
pub kept_fit : (bs : List ℕ) (n : ℕ) → AllByRecursion Byte bs → all_bytes (take n bs) ≡ true
kept_fit bs n bytes = bytes_fit (take n bs) (All-take Byte n bs bytes)

pub kept_accepted : (bs : List ℕ) (v : Event) → AllByRecursion Byte bs → EventOk v → bs ≡ bytes_of v → is_ok (read_event bs) ≡ true
kept_accepted bs v bytes ok is = ap is_ok ((exactly_the_layout bs v bytes).1 (ok, sym is))

pub kept_kind : (bs : List ℕ) (v : Event) (k : Kind) → EventOk v → bs ≡ bytes_of v → k ≡ v.kind → code k ≡ get_or bs 2 0
kept_kind bs v k ok is kind = ap code kind ∙ (sym (code_byte v.kind v.contents ok.0) ∙ ap (λ ys. get_or ys 2 0) (sym is))

pub twelve_given : (k : Kind) (cs : List Content) (given : List (Kind × Content)) → length cs ≡ 12 → given ≡ with_kind k cs → length given ≡ 12
twelve_given k cs given twelve is =
    let pair : Content → Kind × Content = λ c. (k, c) in
    ap length is ∙ (length-map cs pair ∙ twelve)
