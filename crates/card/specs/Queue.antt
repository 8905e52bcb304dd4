-- The events that wait, oldest first.
-- Assumes nothing.
use Rattle.std.specs.Prelude.{ℕ, ◌+◌, ◌-◌, ◌<◌, ◌≤◌, cond, List, [], ◌∷◌, map, Some, None, Option, nat_lt, slice_index_or}
use Rattle.std.specs.List.{range_with_len}
use Rattle.card.specs.declared.waiting.Waiting.TheInside.{Inside}

-- a place of the ring, where one past its end stands for one from its start
abbrev pub round : ℕ → ℕ
round p = cond (nat_lt p 255) p (p - 255)

-- the event that has k older ones before it
abbrev pub event_at : List (List ℕ) → ℕ → ℕ → List ℕ
event_at rows head k = slice_index_or rows (round (head + k)) []

-- the events that wait, each as the lengths of its records
unfoldable pub queued : Inside → List (List ℕ)
queued w = map (event_at w.rows w.head) (range_with_len 0 w.count)

-- the ring's head lies in it, and no more events wait than it has places
abbrev pub IsInRing : Inside → Type 0
IsInRing w = (w.head < 255) × (w.count ≤ 255)

-- the first of a list, if there is one
abbrev pub first_in : {X : Type 0} → List X → Option X
first_in [] = None
first_in (x ∷ xs) = Some x
