-- The runs of a chip, strip by strip.
use Rattle.std.proofs.Common.{◌≡◌, ℕ, ◌+◌, ◌-◌, ◌<◌, ◌≤◌, Bool, true, false, cond, ◌&&◌, eqb, List, [], ◌∷◌, ◌++◌, length, get_or, drop, sym, refl, ap, ◌∙◌, arith}
use Rattle.std.proofs.lemmas.List.{append_assoc, at_drop_more, at_drop_all}
use Rattle.std.proofs.lemmas.List.FromFn.{length-map-range_with_len, get_or-map-range_with_len}
use Rattle.std.proofs.lemmas.Bool.{and_parts, and_from}
use Rattle.layout.specs.declared.run.Run.{Run}
use Rattle.layout.specs.Places.{placed, apart, spaced}
use Rattle.clusters.specs.declared.reached.Reached.{Reached}
use Rattle.clusters.specs.Patterns.{belongs, belonging}
use Rattle.clusters.specs.Clusters.{ended, runs_from}

pub length_belonging : (chip : List Reached) → length (belonging chip) ≡ length chip
length_belonging chip = length-map-range_with_len (belongs chip) 0 (length chip)

pub belonging_at : (chip : List Reached) (n : ℕ) → n < length chip → get_or (belonging chip) n false ≡ belongs chip n
belonging_at chip n h = get_or-map-range_with_len (belongs chip) 0 (length chip) n n false h (omega arith)

-- a run that ends stands before the runs behind it
pub ended_before : (at n : ℕ) (rest : List Run) → ended at n rest ≡ ended at n [] ++ rest
ended_before at n rest = by_test (eqb n 0)
  where
    by_test :
        (b : Bool) →
        cond b rest (record { address = at - n; strips = n } ∷ rest) ≡ cond b [] (record { address = at - n; strips = n } ∷ []) ++ rest
    by_test true = refl
    by_test false = refl

-- what is left of a chip, where strip n is next and the strips before it that are in an open run number s
abbrev pub left : List Reached → ℕ → ℕ → ℕ → List Run
left chip first n s = runs_from (first + n) s (drop n (belonging chip))

left_more :
    (chip : List Reached) (first n s : ℕ) (b : Bool) →
    n < length chip →
    belongs chip n ≡ b →
    left chip first n s ≡ runs_from (first + n) s (b ∷ drop (n + 1) (belonging chip))
left_more chip first n s b h e =
    let within : n < length (belonging chip) = omega (arith, length_belonging chip) in
    at_drop_more (runs_from (first + n) s) (belonging chip) n false within
    ∙ ap (λ t. runs_from (first + n) s (t ∷ drop (n + 1) (belonging chip))) (belonging_at chip n h ∙ e)

-- a strip that belongs lengthens the open run
pub left_longer :
    (chip : List Reached) (first n s : ℕ) → n < length chip → belongs chip n ≡ true → left chip first n s ≡ left chip first (n + 1) (s + 1)
unfolding runs_from
left_longer chip first n s h e =
    let on : first + n + 1 ≡ first + (n + 1) = omega arith in
    left_more chip first n s true h e ∙ ap (λ at. runs_from at (s + 1) (drop (n + 1) (belonging chip))) on

-- a strip that does not belong ends it
pub left_ended :
    (chip : List Reached) (first n s : ℕ) →
    n < length chip →
    belongs chip n ≡ false →
    left chip first n s ≡ ended (first + n) s [] ++ left chip first (n + 1) 0
unfolding runs_from
left_ended chip first n s h e =
    let on : first + n + 1 ≡ first + (n + 1) = omega arith in
    left_more chip first n s false h e
    ∙ ended_before (first + n) s (runs_from (first + n + 1) 0 (drop (n + 1) (belonging chip)))
    ∙ ap (λ at. ended (first + n) s [] ++ runs_from at 0 (drop (n + 1) (belonging chip))) on

-- so does the chip's end
pub left_none : (chip : List Reached) (first n s : ℕ) → length chip ≤ n → left chip first n s ≡ ended (first + n) s []
unfolding runs_from
left_none chip first n s h =
    let all : length (belonging chip) ≤ n = omega (arith, length_belonging chip) in
    at_drop_all (runs_from (first + n) s) (belonging chip) n all

-- the first of some spaced runs are spaced
pub spaced_front : (xs ys : List Run) → spaced (xs ++ ys) ≡ true → spaced xs ≡ true
spaced_front [] ys e = refl
spaced_front (x ∷ []) [] e = e
spaced_front (x ∷ []) (y ∷ ys) e = (and_parts (placed x) (apart x y && spaced (y ∷ ys)) e).0
spaced_front (x ∷ z ∷ xs) ys e =
    let p = and_parts (placed x) (apart x z && spaced (z ∷ xs ++ ys)) e in
    let q = and_parts (apart x z) (spaced (z ∷ xs ++ ys)) p.1 in
    and_from (placed x) (apart x z && spaced (z ∷ xs)) p.0
    (and_from (apart x z) (spaced (z ∷ xs)) q.0 (spaced_front (z ∷ xs) ys q.1))

-- ---- the runs found so far, and all of them
pub all_longer :
    (found all : List Run) (chip : List Reached) (first n s : ℕ) →
    n < length chip →
    belongs chip n ≡ true →
    found ++ left chip first n s ≡ all →
    found ++ left chip first (n + 1) (s + 1) ≡ all
all_longer found all chip first n s h e i = sym (ap (λ rs. found ++ rs) (left_longer chip first n s h e)) ∙ i

pub all_ended :
    (found all : List Run) (chip : List Reached) (first n s : ℕ) →
    n < length chip →
    belongs chip n ≡ false →
    found ++ left chip first n s ≡ all →
    (found ++ ended (first + n) s []) ++ left chip first (n + 1) 0 ≡ all
all_ended found all chip first n s h e i =
    append_assoc found (ended (first + n) s []) (left chip first (n + 1) 0)
    ∙ sym (ap (λ rs. found ++ rs) (left_ended chip first n s h e))
    ∙ i

-- at the end of a chip of m strips
pub all_none :
    (found all : List Run) (chip : List Reached) (first n m s : ℕ) →
    length chip ≡ m →
    n ≡ m →
    found ++ left chip first n s ≡ all →
    found ++ ended (first + m) s [] ≡ all
all_none found all chip first n m s l h i =
    let at : first + n ≡ first + m = omega arith in
    ap (λ k. found ++ ended k s []) (sym at) ∙ sym (ap (λ rs. found ++ rs) (left_none chip first n s (omega arith))) ∙ i
