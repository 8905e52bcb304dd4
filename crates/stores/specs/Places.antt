-- Where the bytes of twelve rings lie in one row of places.
-- Assumes nothing.
use Rattle.std.specs.Prelude.{◌≡◌, ℕ, ◌+◌, ◌-◌, ◌*◌, ◌<◌, ◌≤◌, cond, List, [], ◌∷◌, map, length, take, Ok, Err, Result, nat_lt}
use Rattle.terms.specs.declared.refusal.Refusal.{Refusal}
use Rattle.std.specs.List.{range_with_len}
use Rattle.stores.specs.declared.index.Index.{Index}
use Rattle.stores.specs.declared.queue.Queue.{Queue}
use Rattle.stores.specs.declared.stretch.Stretch.{Stretch}
use Rattle.stores.specs.Cells.{Written, Laid, Picked}
use Rattle.stores.specs.Queues.{queue_at}
use Rattle.stores.specs.Store.{waiting, level_of, oldest, appended, without, put_questions, take_questions, answering}

-- a place of a ring, counted from its first place, where one round at most was passed
abbrev pub wrapped : ℕ → ℕ → ℕ
wrapped room i = cond (nat_lt i room) i (i - room)

-- the bytes of a fibre in its ring: where in it the oldest lies, and how many wait
abbrev pub queue_of : Index → ℕ → Queue
queue_of ix f = queue_at ix.queues f

abbrev pub start_at : Index → ℕ → ℕ
start_at ix f = (queue_of ix f).start

abbrev pub level_at : Index → ℕ → ℕ
level_at ix f = (queue_of ix f).level

-- the place of the byte of fibre f that has k older ones before it: each ring has its own part of the row
abbrev pub place : Index → ℕ → ℕ → ℕ
place ix f k = f * ix.capacity + wrapped ix.capacity (start_at ix f + k)

-- what waits on a fibre, where a row of places holds cells
abbrev pub ring : Index → (ℕ → ℕ) → ℕ → List ℕ
ring ix cells f = map (λ k. cells (place ix f k)) (range_with_len 0 (level_at ix f))

-- the twelve lists
unfoldable pub lists_in : Index → (ℕ → ℕ) → List (List ℕ)
lists_in ix cells = map (ring ix cells) (range_with_len 0 12)

-- the part of the row that has the ring of a fibre holds a stretch of n bytes, and the row that part
pub record Inside (room n : ℕ) (s : Stretch) : Type 0 where
  pub fits : s.first + n ≤ s.end
  pub end_inside : s.end ≤ 12 * room
  pub place_inside : 0 < n → s.place < 12 * room

-- room was made for n bytes of a fibre: laid into the stretch s, they wait behind the others; put there, one byte does
pub record Granted (ix ix' : Index) (f n : ℕ) (s : Stretch) : Type 0 where
  pub answer : (cells : ℕ → ℕ) → Ok tt ≡ put_questions ix.capacity (level_of (lists_in ix cells) f) f n
  pub all : (cells cells' : ℕ → ℕ) (bytes : List ℕ) → length bytes ≡ n → Laid cells cells' s.first s.end s.place bytes
      → lists_in ix' cells' ≡ appended (lists_in ix cells) f bytes
  pub one : (cells cells' : ℕ → ℕ) (b : ℕ) → n ≡ 1 → Written cells cells' s.place b → lists_in ix' cells' ≡ appended (lists_in ix cells) f (b ∷ [])
  pub inside : Inside ix.capacity n s
  pub room : ix'.capacity ≡ ix.capacity

-- a refused append or release
pub record Denied (ix ix' : Index) (f : ℕ) (question : ℕ → Result (Unit {0}) Refusal) (e : Refusal) : Type 0 where
  pub answer : (cells : ℕ → ℕ) → Err e ≡ question (level_of (lists_in ix cells) f)
  pub lists : (cells : ℕ → ℕ) → lists_in ix' cells ≡ lists_in ix cells
  pub room : ix'.capacity ≡ ix.capacity

-- the n oldest bytes of a fibre were given up: they still lie in the stretch s
pub record Released (ix ix' : Index) (f n : ℕ) (s : Stretch) : Type 0 where
  pub answer : (cells : ℕ → ℕ) → Ok tt ≡ take_questions (level_of (lists_in ix cells) f) f n
  pub lists : (cells : ℕ → ℕ) → lists_in ix' cells ≡ without (lists_in ix cells) f n
  pub all : (cells : ℕ → ℕ) (out : List ℕ) → length out ≡ n → Picked cells s.first s.end s.place out → out ≡ take n (waiting (lists_in ix cells) f)
  pub one : (cells : ℕ → ℕ) (x : ℕ) → n ≡ 1 → x ≡ cells s.place
      → Ok x ≡ answering (take_questions (level_of (lists_in ix cells) f) f 1) (oldest (lists_in ix cells) f)
  pub inside : Inside ix.capacity n s
  pub room : ix'.capacity ≡ ix.capacity

-- what is answered to a request for room, and to one for the oldest bytes
abbrev pub RoomFor : Index → Index → ℕ → ℕ → Result Stretch Refusal → Type 0
RoomFor ix ix' f n (Ok s) = Granted ix ix' f n s
RoomFor ix ix' f n (Err e) = Denied ix ix' f (λ level. put_questions ix.capacity level f n) e

abbrev pub Oldest : Index → Index → ℕ → ℕ → Result Stretch Refusal → Type 0
Oldest ix ix' f n (Ok s) = Released ix ix' f n s
Oldest ix ix' f n (Err e) = Denied ix ix' f (λ level. take_questions level f n) e
