-- Twelve rings in a row of places: what an append and a release leave. Assumes nothing.
use Rattle.std.proofs.Common.{◌≡◌, ℕ, suc, ◌+◌, ◌-◌, ◌*◌, ◌/◌, ◌<◌, ◌≤◌, ◌≢◌, List, [], ◌++◌, map, length, get_or, drop, set, replicate, sym, refl, ap, ap₂, ◌∙◌, ⊎_elim, le_refl, suc-mul, arith}
use Rattle.std.specs.List.{range_with_len}
use Rattle.std.proofs.lemmas.List.{same_lists, length-set, length-append, length-drop, get_or-set_same, get_or-set_other, get_or_append_left, get_or-append_right, get_or-drop, get_or-replicate}
use Rattle.std.proofs.lemmas.List.FromFn.{length-map-range_with_len, get_or-map-range_with_len, fill_by_all}
use Rattle.std.proofs.lemmas.Bool.{cases_lt, cases_eq, lt-ltb, le-ltb}
use Rattle.std.proofs.lemmas.Nat.{mul-add-lt, div-mul-add, mul-le}
use Rattle.stores.specs.declared.index.Index.{Index}
use Rattle.stores.specs.declared.queue.Queue.{Queue}
use Rattle.stores.specs.Store.{empty_lists, appended, without}
use Rattle.stores.specs.Cells.{round}
use Rattle.stores.specs.Queues.{no_byte}
use Rattle.stores.specs.Sound.{list_of, length_lists}
use Rattle.stores.specs.Places.{wrapped, queue_of, start_at, level_at, place, ring, lists_in}

-- ---- going round

pub wrapped_before : (room i : ℕ) → i < room → wrapped room i ≡ i
wrapped_before room i h = rw (lt-ltb i room h)

pub wrapped_past : (room i : ℕ) → room ≤ i → wrapped room i ≡ i - room
wrapped_past room i h = rw (le-ltb i room h)

pub wrapped_below : (room i : ℕ) → i < room + room → wrapped room i < room
wrapped_below room i h =
    ⊎_elim (λ b. rw (wrapped_before room i b) b) (λ p. rw (wrapped_past room i p) (omega arith)) (cases_lt i room)

-- where the oldest byte lies, no place was passed
pub wrapped_start : (room s : ℕ) → s ≤ room - 1 → wrapped room (s + 0) ≡ s
wrapped_start room s h =
    ⊎_elim (λ b. rw (wrapped_before room (s + 0) b) (omega arith)) (λ p. rw (wrapped_past room (s + 0) p) (omega arith)) (cases_lt (s + 0) room)

-- going n places on and then k is going n + k places on
pub wrapped_on : (room s n k : ℕ) → s + n + k < room + room → wrapped room (wrapped room (s + n) + k) ≡ wrapped room (s + (n + k))
wrapped_on room s n k h =
    ⊎_elim
    (λ b. rw (wrapped_before room (s + n) b) (ap (wrapped room) (omega arith)))
    (λ p.
    rw (wrapped_past room (s + n) p)
    (wrapped_before room (s + n - room + k) (omega arith) ∙ sym (wrapped_past room (s + (n + k)) (omega arith) ∙ omega arith)))
    (cases_lt (s + n) room)

-- less than a round apart, different places
pub wrapped_apart : (room s j k : ℕ) → s < room → j < room → k < room → wrapped room (s + j) ≡ wrapped room (s + k) → j ≡ k
wrapped_apart room s j k hs hj hk e =
    ⊎_elim
    (λ b. ⊎_elim
    (λ b'. omega (arith, rw (wrapped_before room (s + j) b, wrapped_before room (s + k) b') at e))
    (λ p'. omega (arith, rw (wrapped_before room (s + j) b, wrapped_past room (s + k) p') at e))
    (cases_lt (s + k) room))
    (λ p. ⊎_elim
    (λ b'. omega (arith, rw (wrapped_past room (s + j) p, wrapped_before room (s + k) b') at e))
    (λ p'. omega (arith, rw (wrapped_past room (s + j) p, wrapped_past room (s + k) p') at e))
    (cases_lt (s + k) room))
    (cases_lt (s + j) room)

-- ---- places

module _ (ix : Index) where
  -- how far into its own ring the byte of fibre f with k older ones lies
  into : ℕ → ℕ → ℕ
  into f k = wrapped ix.capacity (start_at ix f + k)

  into_below : (f k : ℕ) → k < ix.capacity → into f k < ix.capacity
  unfolding into
  into_below f k h = let s = ix.starts f in wrapped_below ix.capacity (start_at ix f + k) (omega arith)

  pub place_below : (f k : ℕ) → f < 12 → k < ix.capacity → place ix f k < 12 * ix.capacity
  unfolding into
  place_below f k hf hk = omega (arith, mul-add-lt f ix.capacity (into f k) 12 hf (into_below f k hk))

  pub places_apart : (f g j k : ℕ) → j < ix.capacity → k < ix.capacity → place ix f j ≡ place ix g k → (f ≡ g) × (j ≡ k)
  unfolding into
  places_apart f g j k hj hk e =
      let room = ix.capacity in
      let same : f ≡ g = sym (div-mul-add f room (into f j) (into_below f j hj)) ∙ ap (λ n. n / room) e ∙ div-mul-add g room (into g k) (into_below g k hk) in
      let at_f : place ix f j ≡ place ix f k = e ∙ ap (λ n. place ix n k) (sym same) in
      let s = ix.starts f in
      (same, wrapped_apart room (start_at ix f) j k (omega arith) hj hk (omega arith))

-- ---- lists

map_same : {X : Type 0} (h h' : ℕ → X) (n m : ℕ) (d : X) → n ≡ m → ((k : ℕ) → k < m → h k ≡ h' k) → map h (range_with_len 0 n) ≡ map h' (range_with_len 0 m)
map_same h h' n m d e same =
    fill_by_all h' (map h (range_with_len 0 n)) m d (length-map-range_with_len h 0 n ∙ e)
    (λ k l. get_or-map-range_with_len h 0 n k k d (omega arith) (omega arith) ∙ same k l)

-- lists that differ at one fibre alone
pub one_fibre : (ix ix' : Index) (cells cells' : ℕ → ℕ) (f : ℕ) (bytes : List ℕ) → f < 12
    → ring ix' cells' f ≡ bytes
    → ((g : ℕ) → g < 12 → g ≢ f → ring ix' cells' g ≡ ring ix cells g)
    → lists_in ix' cells' ≡ set (lists_in ix cells) f bytes
one_fibre ix ix' cells cells' f bytes hf here there =
    let n = length_lists ix cells in
    let n' = length_lists ix' cells' in
    same_lists _ _ (n' ∙ sym (length-set (lists_in ix cells) f bytes ∙ n))
    (λ g d h.
    let hg : g < 12 = omega arith in
    ⊎_elim
    (λ e.
    list_of ix' cells' g d hg ∙ ap (ring ix' cells') e ∙ here
    ∙ sym (ap (λ i. get_or (set (lists_in ix cells) f bytes) i d) e ∙ get_or-set_same (lists_in ix cells) f bytes d (omega arith)))
    (λ ne.
    list_of ix' cells' g d hg ∙ there g hg ne
    ∙ sym (get_or-set_other (lists_in ix cells) f g bytes d ne ∙ list_of ix cells g d hg))
    (cases_eq g f))

-- ---- what is left where room was made and where bytes were given up

-- the bytes of one fibre changed
module _ (ix ix' : Index) (f : ℕ) (q : Queue) (hf : f < 12) (changed : ix'.queues ≡ set ix.queues f q) where
  queue_here : queue_of ix' f ≡ q
  queue_here = let n = ix.twelve in ap (λ l. get_or l f no_byte) changed ∙ get_or-set_same ix.queues f q no_byte (omega arith)

  queue_there : (g : ℕ) → g ≢ f → queue_of ix' g ≡ queue_of ix g
  queue_there g ne = ap (λ l. get_or l g no_byte) changed ∙ get_or-set_other ix.queues f g q no_byte ne

-- room was made for n bytes of a fibre
pub record Widened (ix ix' : Index) (f n : ℕ) : Type 0 where
  pub fibre : f < 12
  pub fits : level_at ix f + n ≤ ix.capacity
  pub queues : ix'.queues ≡ set ix.queues f (record { start = start_at ix f; level = level_at ix f + n })
  pub room : ix'.capacity ≡ ix.capacity

-- bytes now lie where room was made for them, and nothing else changed
module _ (ix ix' : Index) (cells cells' : ℕ → ℕ) (f : ℕ) (bytes : List ℕ) (h : Widened ix ix' f (length bytes)) where
  wide_here : queue_of ix' f ≡ record { start = start_at ix f; level = level_at ix f + length bytes }
  wide_here = queue_here ix ix' f _ h.fibre h.queues

  same_start : (g : ℕ) → start_at ix' g ≡ start_at ix g
  same_start g =
      ⊎_elim
      (λ e. ap (start_at ix') e ∙ ap (λ (q : Queue). q.start) wide_here ∙ ap (start_at ix) (sym e))
      (λ ne. ap (λ (q : Queue). q.start) (queue_there ix ix' f _ h.fibre h.queues g ne))
      (cases_eq g f)

  same_place : (g k : ℕ) → place ix' g k ≡ place ix g k
  same_place g k = ap₂ (λ c s. g * c + wrapped c (s + k)) h.room (same_start g)

  level_there : (g : ℕ) → g ≢ f → level_at ix' g ≡ level_at ix g
  level_there g ne = ap (λ (q : Queue). q.level) (queue_there ix ix' f _ h.fibre h.queues g ne)

  level_here : level_at ix' f ≡ level_at ix f + length bytes
  level_here = ap (λ (q : Queue). q.level) wide_here

  pub put_lists : ((k : ℕ) → k < length bytes → cells' (place ix f (level_at ix f + k)) ≡ get_or bytes k 0)
      → ((q : ℕ) → ((k : ℕ) → k < length bytes → q ≢ place ix f (level_at ix f + k)) → cells' q ≡ cells q)
      → lists_in ix' cells' ≡ appended (lists_in ix cells) f bytes
  put_lists new old =
      one_fibre ix ix' cells cells' f _ h.fibre (here ∙ ap (λ l. l ++ bytes) (sym (list_of ix cells f [] h.fibre))) there
    where
      -- a byte that waited lies where it lay
      kept : (g k : ℕ) → k < level_at ix g → cells' (place ix' g k) ≡ cells (place ix g k)
      kept g k l =
          let most = ix.levels g in
          let room = h.fits in
          ap cells' (same_place g k) ∙ old (place ix g k) (λ j m e.
          let two = places_apart ix g f k (level_at ix f + j) (omega arith) (omega arith) e in
          let as_f : level_at ix g ≡ level_at ix f = ap (level_at ix) two.0 in
          omega (arith, two.1))

      there : (g : ℕ) → g < 12 → g ≢ f → ring ix' cells' g ≡ ring ix cells g
      there g b ne =
          map_same (λ k. cells' (place ix' g k)) (λ k. cells (place ix g k)) (level_at ix' g) (level_at ix g) 0 (level_there g ne) (kept g)

      here : ring ix' cells' f ≡ ring ix cells f ++ bytes
      here =
          let n = length-map-range_with_len (λ k. cells (place ix f k)) 0 (level_at ix f) in
          let m = level_here in
          sym (fill_by_all (λ k. cells' (place ix' f k)) (ring ix cells f ++ bytes) (level_at ix' f) 0 (length-append (ring ix cells f) bytes ∙ omega arith)
          (λ k l. ⊎_elim
          (λ b.
          get_or_append_left (ring ix cells f) bytes 0 k (omega arith)
          ∙ get_or-map-range_with_len (λ j. cells (place ix f j)) 0 (level_at ix f) k k 0 b (omega arith) ∙ sym (kept f k b))
          (λ b.
          get_or-append_right (ring ix cells f) bytes (level_at ix f) k 0 n b
          ∙ sym (ap cells' (same_place f k ∙ ap (place ix f) (omega arith)) ∙ new (k - level_at ix f) (omega arith)))
          (cases_lt k (level_at ix f))))

-- the n oldest bytes of a fibre were given up
pub record Shortened (ix ix' : Index) (f n : ℕ) : Type 0 where
  pub fibre : f < 12
  pub waits : n ≤ level_at ix f
  pub queues : ix'.queues ≡ set ix.queues f (record { start = wrapped ix.capacity (start_at ix f + n); level = level_at ix f - n })
  pub room : ix'.capacity ≡ ix.capacity

module _ (ix ix' : Index) (f n : ℕ) (h : Shortened ix ix' f n) (cells : ℕ → ℕ) where
  pub take_lists : lists_in ix' cells ≡ without (lists_in ix cells) f n
  take_lists =
      one_fibre ix ix' cells cells f _ h.fibre (here ∙ ap (drop n) (sym (list_of ix cells f [] h.fibre))) there
    where
      there : (g : ℕ) → g < 12 → g ≢ f → ring ix' cells g ≡ ring ix cells g
      there g b ne =
          let q = queue_there ix ix' f _ h.fibre h.queues g ne in
          let s : start_at ix' g ≡ start_at ix g = ap (λ (q : Queue). q.start) q in
          let l : level_at ix' g ≡ level_at ix g = ap (λ (q : Queue). q.level) q in
          map_same (λ k. cells (place ix' g k)) (λ k. cells (place ix g k)) (level_at ix' g) (level_at ix g) 0 l (λ k _. ap cells (ap₂ (λ c s. g * c + wrapped c (s + k)) h.room s))

      here : ring ix' cells f ≡ drop n (ring ix cells f)
      here =
          let b = h.waits in
          let most = ix.levels f in
          let begins = ix.starts f in
          let q = queue_here ix ix' f _ h.fibre h.queues in
          let s : start_at ix' f ≡ wrapped ix.capacity (start_at ix f + n) = ap (λ (q : Queue). q.start) q in
          let l : level_at ix' f ≡ level_at ix f - n = ap (λ (q : Queue). q.level) q in
          let m = length-map-range_with_len (λ k. cells (place ix f k)) 0 (level_at ix f) in
          sym (fill_by_all (λ k. cells (place ix' f k)) (drop n (ring ix cells f)) (level_at ix' f) 0 (length-drop n (ring ix cells f) ∙ omega arith)
          (λ k i.
          get_or-drop n (ring ix cells f) k 0
          ∙ get_or-map-range_with_len (λ j. cells (place ix f j)) 0 (level_at ix f) (n + k) (n + k) 0 (omega arith) (omega arith)
          ∙ ap cells (sym (ap₂ (λ c s. f * c + wrapped c (s + k)) h.room s ∙ ap (λ w. f * ix.capacity + w) (wrapped_on ix.capacity (start_at ix f) n k (omega arith))))))

-- ---- no byte waits

pub empty_in : (ix : Index) (cells : ℕ → ℕ) → ix.queues ≡ replicate 12 no_byte → lists_in ix cells ≡ empty_lists
unfolding lists_in
empty_in ix cells e =
    map_same (ring ix cells) (λ _. []) 12 12 [] refl
    (λ f h.
    map_same (λ k. cells (place ix f k)) (λ _. 0) (level_at ix f) 0 0 (ap (λ (q : Queue). q.level) (ap (λ l. get_or l f no_byte) e ∙ get_or-replicate 12 f no_byte no_byte h))
    (λ k l. absurd (omega arith)))

-- k places on in the ring of a fibre
pub round_wrapped : (F room w k : ℕ) → round F (F + room) (F + w) k ≡ F + wrapped room (w + k)
round_wrapped F room w k =
    ⊎_elim
    (λ b. rw (lt-ltb (F + w + k) (F + room) (omega arith), wrapped_before room (w + k) b) (omega arith))
    (λ b. rw (le-ltb (F + w + k) (F + room) (omega arith), wrapped_past room (w + k) b) (omega arith))
    (cases_lt (w + k) room)

pub round_place : (ix : Index) (f m k : ℕ) → start_at ix f + m + k < ix.capacity + ix.capacity
    → round (f * ix.capacity) (f * ix.capacity + ix.capacity) (place ix f m) k ≡ place ix f (m + k)
round_place ix f m k h =
    round_wrapped (f * ix.capacity) ix.capacity (wrapped ix.capacity (start_at ix f + m)) k
    ∙ ap (λ w. f * ix.capacity + w) (wrapped_on ix.capacity (start_at ix f) m k h)

-- a ring's own part of the row
pub ring_inside : (f room : ℕ) → f < 12 → f * room + room ≤ 12 * room
ring_inside f room h = omega (arith, suc-mul f room, mul-le (suc f) room 12 room h (le_refl room))
