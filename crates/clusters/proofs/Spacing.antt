-- Where the runs of a chip lie: two strips apart, since no strip alone is free between two that belong.
use Rattle.std.proofs.Common.{◌≡◌, ℕ, zero, suc, ◌+◌, ◌-◌, ◌/◌, ◌%◌, ◌<◌, ◌≤◌, Bool, true, false, not, ◌&&◌, ◌||◌, eqb, ltb, leb, List, [], ◌∷◌, ◌++◌, map, length, take, drop, sum_by, sym, refl, ap, ◌∙◌, subst, arith}
use Rattle.std.specs.List.{range_with_len}
use Rattle.std.proofs.lemmas.List.{length-take-le, length-drop}
use Rattle.std.proofs.lemmas.List.Sums.{sum_by-cons}
use Rattle.std.proofs.lemmas.Bool.{and_from, or_left, or_right, le-leb, lt-ltb, ne_eqb, not_from_false, both_ways, cond-false}
use Rattle.layout.specs.declared.run.Run.{Run}
use Rattle.layout.specs.Places.{placed, apart, spaced}
use Rattle.clusters.specs.declared.reached.Reached.{Reached}
use Rattle.clusters.specs.Patterns.{belongs, belonging}
use Rattle.clusters.specs.Clusters.{ended, runs_from, chip_runs, cluster_runs}
use Rattle.clusters.specs.Laws.{ClustersInPlace, AtMost130Bytes}
use Rattle.clusters.proofs.Following.{length_belonging}
use Rattle.clusters.proofs.Hits.{no_single_gap}

-- no flag alone is false between two that are true
abbrev NoGap : List Bool → Type 0
NoGap [] = Unit {0}
NoGap (x ∷ []) = Unit {0}
NoGap (x ∷ y ∷ []) = Unit {0}
NoGap (x ∷ y ∷ z ∷ flags) = (x ≡ true → z ≡ true → y ≡ true) × NoGap (y ∷ z ∷ flags)

no_gap_behind : (x : Bool) (flags : List Bool) → NoGap (x ∷ flags) → NoGap flags
no_gap_behind x [] h = tt
no_gap_behind x (y ∷ []) h = tt
no_gap_behind x (y ∷ z ∷ flags) h = h.1

counted_no_gap :
    (f : ℕ → Bool) (a n : ℕ) →
    ((k : ℕ) → k + 2 < a + n → f k ≡ true → f (k + 2) ≡ true → f (k + 1) ≡ true) →
    NoGap (map f (range_with_len a n))
counted_no_gap f a zero h = tt
counted_no_gap f a (suc zero) h = tt
counted_no_gap f a (suc (suc zero)) h = tt
counted_no_gap f a (suc (suc (suc n))) h =
    let two : a + 1 + 1 ≡ a + 2 = omega arith in (
      λ e g. h a (omega arith) e (sym (ap f two) ∙ g),
      counted_no_gap f (a + 1) (suc (suc n)) (λ k l. h k (omega arith)),
    )

pub belonging_no_gap : (chip : List Reached) → NoGap (belonging chip)
belonging_no_gap chip = counted_no_gap (belongs chip) 0 (length chip) (λ k l. no_single_gap chip k (omega arith))

-- runs from a strip on that end by another, each with a strip and two strips behind the one before
abbrev Chain : ℕ → ℕ → List Run → Type 0
Chain low high [] = Unit {0}
Chain low high (r ∷ rs) =
    (low ≤ r.address) × (1 ≤ r.strips) × (r.address + r.strips ≤ high) × Chain (r.address + r.strips + 2) high rs

pub ended_some : (at n : ℕ) (rest : List Run) → 1 ≤ n → ended at n rest ≡ record { address = at - n; strips = n } ∷ rest
ended_some at n rest h =
    cond-false (eqb n 0) rest (record { address = at - n; strips = n } ∷ rest) (ne_eqb n 0 (λ e. omega arith))

chain_ended :
    (low high at n : ℕ) (rest : List Run) →
    1 ≤ n →
    low + n ≤ at →
    at ≤ high →
    ((end : ℕ) → end ≡ at → Chain (end + 2) high rest) →
    Chain low high (ended at n rest)
chain_ended low high at n rest some from within more =
    subst (Chain low high) (sym (ended_some at n rest some)) (omega arith, some, omega arith, more (at - n + n) (omega arith))

-- the runs behind a strip that is free, and those where the n strips before are in an open run
abbrev Free : List Bool → Type 0
Free flags =
    (low high at : ℕ) → low ≤ at → at + length flags ≤ high → NoGap flags → Chain low high (runs_from at 0 flags)

abbrev Open : List Bool → Type 0
Open flags =
    (low high at n : ℕ) →
    1 ≤ n →
    low + n ≤ at →
    at + length flags ≤ high →
    NoGap (true ∷ flags) →
    Chain low high (runs_from at n flags)

chains : (flags : List Bool) → Free flags × Open flags
unfolding runs_from
chains [] = (
  λ low high at from within gap. tt,
  λ low high at n some from within gap. chain_ended low high at n [] some from (omega arith) (λ end e. tt),
)
chains (true ∷ flags) = (
  λ low high at from within gap. (chains flags).1 low high (at + 1) 1 (omega arith) (omega arith) (omega arith) gap,
  λ low high at n some from within gap.
      (chains flags).1 low high (at + 1) (n + 1) (omega arith) (omega arith) (omega arith) (no_gap_behind true (true ∷ flags) gap),
)
chains (false ∷ []) = (
  λ low high at from within gap. tt,
  λ low high at n some from within gap. chain_ended low high at n [] some from (omega arith) (λ end e. tt),
)
chains (false ∷ true ∷ flags) = (
  λ low high at from within gap.
      (chains (true ∷ flags)).0 low high (at + 1) (omega arith) (omega arith) (no_gap_behind false (true ∷ flags) gap),
  λ low high at n some from within gap. absurd (both_ways false refl (gap.0 refl refl)),
)
chains (false ∷ false ∷ flags) = (
  λ low high at from within gap.
      (chains (false ∷ flags)).0 low high (at + 1) (omega arith) (omega arith) (no_gap_behind false (false ∷ flags) gap),
  λ low high at n some from within gap.
      chain_ended low high at n (runs_from (at + 1 + 1) 0 flags) some from (omega arith)
      (λ end e.
      (chains flags).0 (end + 2) high (at + 1 + 1) (omega arith) (omega arith)
      (no_gap_behind false flags (no_gap_behind false (false ∷ flags) gap.1))),
)

-- the runs of a chip
chip_chain : (first n : ℕ) (chip : List Reached) → length chip ≡ n → Chain first (first + n) (chip_runs first chip)
chip_chain first n chip e =
    (chains (belonging chip)).0 first (first + n) first (omega arith) (omega (arith, length_belonging chip)) (belonging_no_gap chip)

-- ---- runs of the two chips
placed_left : (r : Run) → 1 ≤ r.strips → r.address + r.strips ≤ 128 → placed r ≡ true
placed_left r some within =
    and_from (leb 1 r.strips) (leb (r.address % 128 + r.strips) 128) (le-leb 1 r.strips some)
    (le-leb (r.address % 128 + r.strips) 128 (omega arith))

placed_right : (r : Run) → 1 ≤ r.strips → 128 ≤ r.address → r.address + r.strips ≤ 256 → placed r ≡ true
placed_right r some from within =
    and_from (leb 1 r.strips) (leb (r.address % 128 + r.strips) 128) (le-leb 1 r.strips some)
    (le-leb (r.address % 128 + r.strips) 128 (omega arith))

-- two of one chip
near_apart : (p q : Run) → p.address + p.strips + 2 ≤ q.address → apart p q ≡ true
near_apart p q free =
    and_from (ltb p.address q.address)
    (not (eqb (p.address / 128) (q.address / 128)) || leb (p.address + p.strips + 2) q.address)
    (lt-ltb p.address q.address (omega arith))
    (or_right (not (eqb (p.address / 128) (q.address / 128))) (leb (p.address + p.strips + 2) q.address)
    (le-leb (p.address + p.strips + 2) q.address free))

-- one of the left chip and one of the right
far_apart : (p q : Run) → p.address < 128 → 128 ≤ q.address → apart p q ≡ true
far_apart p q left right =
    and_from (ltb p.address q.address)
    (not (eqb (p.address / 128) (q.address / 128)) || leb (p.address + p.strips + 2) q.address)
    (lt-ltb p.address q.address (omega arith))
    (or_left (not (eqb (p.address / 128) (q.address / 128))) (leb (p.address + p.strips + 2) q.address)
    (not_from_false (eqb (p.address / 128) (q.address / 128)) (ne_eqb (p.address / 128) (q.address / 128) (λ e. omega arith))))

spaced_cons : (p q : Run) (rs : List Run) → placed p ≡ true → apart p q ≡ true → spaced (q ∷ rs) ≡ true → spaced (p ∷ q ∷ rs) ≡ true
spaced_cons p q rs e f g =
    and_from (placed p) (apart p q && spaced (q ∷ rs)) e (and_from (apart p q) (spaced (q ∷ rs)) f g)

spaced_right : (low : ℕ) (rs : List Run) → 128 ≤ low → Chain low 256 rs → spaced rs ≡ true
spaced_right low [] from h = refl
spaced_right low (r ∷ []) from h = placed_right r h.1 (omega (arith, h.0)) h.2
spaced_right low (r ∷ q ∷ rs) from h =
    spaced_cons r q rs (placed_right r h.1 (omega (arith, h.0)) h.2) (near_apart r q h.3.0)
    (spaced_right (r.address + r.strips + 2) (q ∷ rs) (omega (arith, h.0)) h.3)

spaced_both : (low : ℕ) (ls rs : List Run) → Chain low 128 ls → Chain 128 256 rs → spaced (ls ++ rs) ≡ true
spaced_both low [] rs h k = spaced_right 128 rs (omega arith) k
spaced_both low (l ∷ []) [] h k = placed_left l h.1 h.2
spaced_both low (l ∷ []) (r ∷ rs) h k =
    spaced_cons l r rs (placed_left l h.1 h.2) (far_apart l r (omega (arith, h.1, h.2)) k.0) (spaced_right 128 (r ∷ rs) (omega arith) k)
spaced_both low (l ∷ q ∷ ls) rs h k =
    spaced_cons l q (ls ++ rs) (placed_left l h.1 h.2) (near_apart l q h.3.0)
    (spaced_both (l.address + l.strips + 2) (q ∷ ls) rs h.3 k)

pub clusters_in_place : ClustersInPlace
unfolding cluster_runs
clusters_in_place strips e =
    let left : length (take 128 strips) ≡ 128 = length-take-le 128 strips (omega arith) in
    let right : length (drop 128 strips) ≡ 128 = omega (arith, length-drop 128 strips) in
    spaced_both 0 (chip_runs 0 (take 128 strips)) (chip_runs 128 (drop 128 strips))
    (chip_chain 0 128 (take 128 strips) left) (chip_chain 128 128 (drop 128 strips) right)

-- ---- the bytes of a chip's clusters
chain_bytes : (low high : ℕ) (rs : List Run) → low ≤ high + 2 → Chain low high rs → sum_by (λ r. 2 + r.strips) rs + low ≤ high + 2
chain_bytes low high [] from h = omega arith
chain_bytes low high (r ∷ rs) from h =
    let rest = chain_bytes (r.address + r.strips + 2) high rs (omega (arith, h.2)) h.3 in
    omega (arith, sum_by-cons (λ (q : Run). 2 + q.strips) r rs, h.0, h.2)

pub at_most_130_bytes : AtMost130Bytes
at_most_130_bytes first strips e =
    omega (arith, chain_bytes first (first + 128) (chip_runs first strips) (omega arith) (chip_chain first 128 strips e))
