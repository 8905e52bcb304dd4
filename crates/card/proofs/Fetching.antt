-- Taking an event's records one after the other.
-- Assumes nothing.
use Rattle.std.proofs.Common.{◌≡◌, ℕ, zero, suc, ◌+◌, ◌-◌, ◌<◌, ◌≤◌, true, false, leb, List, [], ◌∷◌, ◌++◌, map, length, get_or, take, drop, set, replicate, sum_by, sym, refl, ap, ◌∙◌, add-zero, arith}
use borrow.Rule.Slice.PartMut.{put_mid}
use Rattle.std.specs.List.{range_with_len, flat_map}
use Rattle.std.proofs.lemmas.List.FromFn.{map-range_with_len_more, length-map-range_with_len}
use Rattle.std.proofs.lemmas.List.Edits.{length-between}
use Rattle.std.proofs.lemmas.List.{flat_map_more, append_assoc, length-append, length-take-le, length-replicate, take_at, drop_at, drop-drop, drop_more, drop_all, append-nil, set_at, get_or_at}
use Rattle.std.proofs.lemmas.List.Sums.{sum_by-cons}
use Rattle.std.proofs.lemmas.Bool.{leb-true, le-leb, lt-leb, cond_both, cond-true, cond-false}
use Rattle.terms.specs.declared.refusal.Refusal.TheVariants.{NoSlipOut, BufferTooShort}
use Rattle.stores.specs.Store.{waiting}
use Rattle.rules.specs.Rules.{Meaning}
use Rattle.card_model.specs.Fibres.{for_fibres, total, in_fibre_order}
use Rattle.card_model.specs.Calls.{fetch, fetched, plain, refused}
use Rattle.card_model.specs.Clock.{Outcome}
use Rattle.card_model.specs.Readout.{event_length, taken_from, left_in, oldest_lengths, oldest_bytes, without_event}
use Rattle.card_model.specs.Step.{step, refusing, with_readout, fetching, fetch_asked, fetch_step}
use Rattle.card_model.proofs.Fibres.{for_same, total_same, in_order_same}
use Rattle.card.specs.declared.inner.Core.{Core}
use Rattle.card.specs.declared.waiting.Waiting.{Waiting}
use Rattle.card.specs.Abstraction.{state_of}
use Rattle.card.specs.Steps.{Stepped}
use Rattle.card.specs.Taking.{record_in, left_by, LengthsOf}
use Rattle.card.proofs.Calls.{stepped}
use Rattle.card.proofs.Fibres.{counting_more, sum_more}

-- the lengths on the fibres below f, summed
abbrev pub before : List ℕ → ℕ → ℕ
before lengths f = sum_by (λ g. get_or lengths g 0) (range_with_len 0 f)

pub before_more : (lengths : List ℕ) (f : ℕ) → before lengths (f + 1) ≡ before lengths f + get_or lengths f 0
before_more lengths f = sum_more (λ g. get_or lengths g 0) f

before_grows : (lengths : List ℕ) (f k : ℕ) → before lengths f ≤ before lengths (f + k)
before_grows lengths f zero = omega (arith, ap (before lengths) (add-zero f))
before_grows lengths f (suc k) =
    let next : f + suc k ≡ f + k + 1 = omega arith in
    omega (arith, before_grows lengths f k, before_more lengths (f + k), ap (before lengths) next)

pub before_all : (lengths : List ℕ) → before lengths 12 ≡ event_length lengths
unfolding total
before_all lengths = refl

pub before_le : (lengths : List ℕ) (f : ℕ) → f ≤ 12 → before lengths f ≤ event_length lengths
before_le lengths f h =
    let end : f + (12 - f) ≡ 12 = omega arith in
    omega (arith, before_grows lengths f (12 - f), ap (before lengths) end, before_all lengths)

-- the records on the fibres below f, one after the other
abbrev pub records_before : List ℕ → List (List ℕ) → ℕ → List ℕ
records_before lengths lists f = flat_map (record_in lengths lists) (range_with_len 0 f)

pub length_taken : (n : ℕ) (list : List ℕ) → length (taken_from n list) ≡ n
length_taken n list =
    cond_both (leb n (length list)) (take n list) (replicate n 0) (λ (xs : List ℕ). length xs ≡ n)
    (λ e. length-take-le n list (leb-true n (length list) e)) (λ e. length-replicate n 0)

length_joined : (g : ℕ → List ℕ) (h : ℕ → ℕ) → ((f : ℕ) → length (g f) ≡ h f) → (fs : List ℕ) → length (flat_map g fs) ≡ sum_by h fs
length_joined g h e [] = refl
length_joined g h e (f ∷ fs) =
    omega (arith, length-append (g f) (flat_map g fs), e f, length_joined g h e fs, sum_by-cons h f fs)

pub length_records : (lengths : List ℕ) (lists : List (List ℕ)) (f : ℕ) → length (records_before lengths lists f) ≡ before lengths f
length_records lengths lists f =
    length_joined (record_in lengths lists) (λ g. get_or lengths g 0) (λ g. length_taken (get_or lengths g 0) (waiting lists g)) (range_with_len 0 f)

pub records_more : (lengths : List ℕ) (lists : List (List ℕ)) (f : ℕ)
    → records_before lengths lists (f + 1) ≡ records_before lengths lists f ++ record_in lengths lists f
records_more lengths lists f =
    ap (λ (fs : List ℕ). flat_map (record_in lengths lists) fs) (counting_more f)
    ∙ sym (flat_map_more (record_in lengths lists) [] (range_with_len 0 f) f)

-- the buffer once the records below f are written
abbrev pub written_before : List ℕ → List (List ℕ) → List ℕ → ℕ → List ℕ
written_before lengths lists buffer f = records_before lengths lists f ++ drop (before lengths f) buffer

-- the lists once the records below f are taken
abbrev pub lists_before : List ℕ → List (List ℕ) → ℕ → List (List ℕ)
lists_before lengths lists f = map (left_by lengths lists) (range_with_len 0 f) ++ drop f lists

module _ (lengths : List ℕ) (lists : List (List ℕ)) (f : ℕ) (inside : f < length lists) where
  split : lists_before lengths lists f ≡ map (left_by lengths lists) (range_with_len 0 f) ++ waiting lists f ∷ drop (f + 1) lists
  split = ap (λ (xs : List (List ℕ)). map (left_by lengths lists) (range_with_len 0 f) ++ xs) (drop_more lists f [] inside)

  pub waits_still : waiting (lists_before lengths lists f) f ≡ waiting lists f
  waits_still =
      ap (λ (xs : List (List ℕ)). waiting xs f) split
      ∙ get_or_at (map (left_by lengths lists) (range_with_len 0 f)) (waiting lists f) (drop (f + 1) lists) [] f (length-map-range_with_len (left_by lengths lists) 0 f)

  pub lists_more : set (lists_before lengths lists f) f (left_by lengths lists f) ≡ lists_before lengths lists (f + 1)
  lists_more =
      let front = map (left_by lengths lists) (range_with_len 0 f) in
      ap (λ (xs : List (List ℕ)). set xs f (left_by lengths lists f)) split
      ∙ (set_at front (waiting lists f) (drop (f + 1) lists) (left_by lengths lists f) f (length-map-range_with_len (left_by lengths lists) 0 f)
      ∙ (sym (append_assoc front (left_by lengths lists f ∷ []) (drop (f + 1) lists))
      ∙ ap (λ (xs : List (List ℕ)). xs ++ drop (f + 1) lists) (sym (map-range_with_len_more (left_by lengths lists) 0 f f (omega arith)))))

  -- one more record is taken
  pub lists_step : (now after : List (List ℕ)) (n : ℕ) → now ≡ lists_before lengths lists f → n ≡ get_or lengths f 0
      → after ≡ set now f (left_in n (waiting now f)) → after ≡ lists_before lengths lists (f + 1)
  lists_step now after n e long a =
      a
      ∙ ((λ i. set (e i) f (left_in (long i) (waiting (e i) f)))
      ∙ (ap (λ (xs : List ℕ). set (lists_before lengths lists f) f (left_in (get_or lengths f 0) xs)) waits_still ∙ lists_more))

  pub record_step : (now : List (List ℕ)) (part : List ℕ) (n : ℕ) → now ≡ lists_before lengths lists f → n ≡ get_or lengths f 0
      → part ≡ taken_from n (waiting now f) → part ≡ record_in lengths lists f
  record_step now part n e long a =
      a ∙ ((λ i. taken_from (long i) (waiting (e i) f)) ∙ ap (taken_from (get_or lengths f 0)) waits_still)

pub lists_all : (lengths : List ℕ) (lists : List (List ℕ)) → length lists ≡ 12 → lists_before lengths lists 12 ≡ for_fibres (left_by lengths lists)
unfolding for_fibres
lists_all lengths lists twelve =
    let front = map (left_by lengths lists) (range_with_len 0 12) in
    ap (λ (xs : List (List ℕ)). front ++ xs) (drop_all 12 lists (omega arith)) ∙ append-nil front

-- a record was written behind those below f
pub written_more : (lengths : List ℕ) (lists : List (List ℕ)) (buffer : List ℕ) (f k : ℕ) (part : List ℕ)
    → k ≡ get_or lengths f 0 → part ≡ record_in lengths lists f
    → put_mid (before lengths f) k (written_before lengths lists buffer f) part ≡ written_before lengths lists buffer (f + 1)
written_more lengths lists buffer f k part long e =
    let at = before lengths f in
    let front = records_before lengths lists f in
    let rest = drop at buffer in
    let size = length_records lengths lists f in
    let whole = written_before lengths lists buffer f in
    let taken : take at whole ≡ front = take_at front rest at size in
    let left : drop k (drop at whole) ≡ drop (before lengths (f + 1)) buffer =
    ap (drop k) (drop_at front rest at size)
    ∙ (drop-drop k at buffer ∙ ap (λ (n : ℕ). drop n buffer) (ap (λ (n : ℕ). at + n) long ∙ sym (before_more lengths f)))
    in
    ap (λ (xs : List ℕ). xs ++ (part ++ drop k (drop at whole))) taken
    ∙ (ap (λ (xs : List ℕ). front ++ (part ++ xs)) left
    ∙ (sym (append_assoc front part (drop (before lengths (f + 1)) buffer))
    ∙ (ap (λ (xs : List ℕ). (front ++ xs) ++ drop (before lengths (f + 1)) buffer) e
    ∙ ap (λ (xs : List ℕ). xs ++ drop (before lengths (f + 1)) buffer) (sym (records_more lengths lists f)))))

pub written_step : (lengths : List ℕ) (lists : List (List ℕ)) (buffer : List ℕ) (f at k : ℕ) (now part : List ℕ)
    → at ≡ before lengths f → k ≡ get_or lengths f 0 → now ≡ written_before lengths lists buffer f → part ≡ record_in lengths lists f
    → put_mid at k now part ≡ written_before lengths lists buffer (f + 1)
written_step lengths lists buffer f at k now part a long e p =
    (λ i. put_mid (a i) k (e i) part) ∙ written_more lengths lists buffer f k part long p

-- the length of a part
pub length_part : (xs : List ℕ) (at n : ℕ) → at + n ≤ length xs → length (take (at + n - at) (drop at xs)) ≡ n
length_part xs at n h = length-between xs at (at + n) h ∙ omega arith

pub written_all : (lengths : List ℕ) (lists : List (List ℕ)) (buffer : List ℕ)
    → written_before lengths lists buffer 12 ≡ in_fibre_order (record_in lengths lists) ++ drop (event_length lengths) buffer
unfolding in_fibre_order total
written_all lengths lists buffer = refl

-- the bytes of an event are as many as its lengths say
pub length_event : (lengths : List ℕ) (lists : List (List ℕ)) → length (in_fibre_order (record_in lengths lists)) ≡ event_length lengths
unfolding in_fibre_order total
length_event lengths lists = length_records lengths lists 12

-- a core once an event is fetched
abbrev pub fetched_core : Core → Waiting → Core
fetched_core core waiting =
    record {
      settings = core.settings;
      tickers = core.tickers;
      capture = core.capture;
      rows = core.rows;
      waiting = waiting;
      slip_out = false;
    }

module _ (core : Core) (lists : List (List ℕ)) (room : ℕ) (lengths : List ℕ) (same : LengthsOf core.waiting lengths) where
  -- the oldest event of a card, by its lengths
  pub oldest_length : event_length (oldest_lengths (state_of core lists room).readout) ≡ event_length lengths
  unfolding state_of
  oldest_length = total_same _ (λ f. get_or lengths f 0) (λ f h. sym (same f))

  pub oldest_is : oldest_bytes (state_of core lists room).readout ≡ in_fibre_order (record_in lengths lists)
  unfolding state_of oldest_bytes
  oldest_is = in_order_same _ (record_in lengths lists) (λ f h. ap (λ (n : ℕ). taken_from n (waiting lists f)) (sym (same f)))

  -- the card without it
  pub without_oldest : (waiting' : Waiting) (lists' : List (List ℕ)) (room' : ℕ)
      → lists' ≡ for_fibres (left_by lengths lists) → room' ≡ room → waiting' ≡ drop 1 core.waiting
      → state_of (fetched_core core waiting') lists' room'
      ≡ with_readout (state_of core lists room) (without_event (state_of core lists room).readout)
  unfolding state_of without_event
  without_oldest waiting' lists' room' l r q =
      let left = l ∙ for_same (left_by lengths lists) _ (λ f h. ap (λ (n : ℕ). left_in n (waiting lists f)) (same f)) in
      let s = state_of core lists room in
      λ i.
      record {
        settings = s.settings;
        watches = s.watches;
        capture = s.capture;
        readout = record { lists = left i; room = r i; events = q i; slip_out = false };
      }

  pub bytes_written : (buffer after : List ℕ) (n : ℕ) → n ≡ event_length lengths
      → after ≡ in_fibre_order (record_in lengths lists) ++ drop (event_length lengths) buffer
      → after ≡ oldest_bytes (state_of core lists room).readout ++ drop n buffer
  bytes_written buffer after n long w = w ∙ (λ i. sym oldest_is i ++ drop (sym long i) buffer)

  pub oldest_long : (n : ℕ) → n ≡ event_length lengths → n ≡ length (oldest_bytes (state_of core lists room).readout)
  oldest_long n long = long ∙ (sym (length_event lengths lists) ∙ ap length (sym oldest_is))

  module _ (meaning : Meaning) (b n : ℕ) (out : core.slip_out ≡ true) (long : n ≡ event_length lengths) where
    asked : step meaning (state_of core lists room) (fetch b) ≡ fetch_asked n (state_of core lists room) b
    unfolding state_of fetch_step
    asked =
        cond-true core.slip_out _ (refusing (state_of core lists room) NoSlipOut) out
        ∙ ap (λ (m : ℕ). fetch_asked m (state_of core lists room) b) (oldest_length ∙ sym long)

    pub fetch_refused_short : b < n
        → Stepped meaning (state_of core lists room) (fetch b) (state_of core lists room) (plain (refused (BufferTooShort n)))
    fetch_refused_short short =
        stepped meaning (state_of core lists room) (fetch b) (refusing (state_of core lists room) (BufferTooShort n))
        (asked ∙ cond-false (leb n b) (fetching (state_of core lists room)) _ (lt-leb n b short))

    pub fetch_done : n ≤ b → (waiting' : Waiting) (lists' : List (List ℕ)) (room' : ℕ) (buffer after : List ℕ)
        → lists' ≡ for_fibres (left_by lengths lists) → room' ≡ room → waiting' ≡ drop 1 core.waiting
        → after ≡ in_fibre_order (record_in lengths lists) ++ drop (event_length lengths) buffer
        → Stepped meaning (state_of core lists room) (fetch b) (state_of (fetched_core core waiting') lists' room') (fetched (take n after))
    fetch_done enough waiting' lists' room' buffer after l r q w =
        let s = state_of core lists room in
        let done : step meaning s (fetch b) ≡ fetching s = asked ∙ cond-true (leb n b) (fetching s) _ (le-leb n b enough) in
        let front : take n after ≡ oldest_bytes s.readout =
        ap (take n) (bytes_written buffer after n long w) ∙ take_at (oldest_bytes s.readout) (drop n buffer) n (sym (oldest_long n long))
        in
        record {
          state = without_oldest waiting' lists' room' l r q ∙ sym (ap (λ (o : Outcome). o.next_card) done);
          says = ap fetched front ∙ sym (ap (λ (o : Outcome). o.answer) done);
        }

pub fetch_refused : (meaning : Meaning) (core : Core) (lists : List (List ℕ)) (room b : ℕ) → core.slip_out ≡ false
    → Stepped meaning (state_of core lists room) (fetch b) (state_of core lists room) (plain (refused NoSlipOut))
unfolding state_of fetch_step
fetch_refused meaning core lists room b out =
    stepped meaning (state_of core lists room) (fetch b) (refusing (state_of core lists room) NoSlipOut)
    (cond-false core.slip_out _ (refusing (state_of core lists room) NoSlipOut) out)
