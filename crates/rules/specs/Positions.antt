-- Exactly one number has a position from 1 to the length, and it is one of the values.
-- Assumes nothing.
use Rattle.std.specs.Prelude.{◌≡◌, ℕ, zero, suc, ◌+◌, ◌<◌, ◌≤◌, Bool, true, false, cond, List, [], ◌∷◌, length, sum, nat_eq, nat_le, nat_lt, slice_index_or, refl}
use Rattle.std.proofs.Common.{ap, subst, ◌∙◌, inl, inr, add-one, arith}
use Rattle.std.specs.List.{ContainsAt, AllByRecursion}
use Rattle.std.proofs.lemmas.List.Sums.{get_or-le-sum_by}
use Rattle.std.proofs.ByRecursion.{All-from_get_or, all-has}
use Rattle.std.proofs.lemmas.Bool.{ltb-true, leb-true, lt-ltb, le-leb, eqb-true, cases_lt, cases_order, and_from, and_parts, both_ways}
use Rattle.rules.specs.Rules.{below, at_or_below, HasPosition, has_it, first_such, value_at, rank, rank_position, InRange, StaysBetween, RankLaws}
use Rattle.rules.specs.Counts.{below_more, upto_below, upto_le_below, below_zero, below_all, count_has}

pub position_unique : (p x y : ℕ) (vs : List ℕ) → HasPosition p x vs → HasPosition p y vs → x ≡ y
position_unique p x y vs hx hy = elim (cases_order x y) [
  | inl e ↦ e
  | inr (inl l) ↦ absurd (omega (arith, upto_le_below x y l vs, hx.enough, hy.fewer))
  | inr (inr l) ↦ absurd (omega (arith, upto_le_below y x l vs, hy.enough, hx.fewer))
]

-- a number that starts below p and comes to p gets there in one step
crossing : (g : ℕ → ℕ) (p n : ℕ) → g 0 < p → p ≤ g n → (x : ℕ) × (g x < p) × (p ≤ g (x + 1))
crossing g p zero low high = absurd (omega arith)
crossing g p (suc n) low high = elim (cases_lt (g n) p) [
  | inl l ↦ (n, l, rw add-one high)
  | inr le ↦ crossing g p n low le
]

-- a number with the position p
pub position_exists : (p : ℕ) (vs : List ℕ) → 0 < p → p ≤ length vs → (x : ℕ) × HasPosition p x vs
position_exists p vs some within =
    let top : ℕ = sum vs + 1 in
    let all : AllByRecursion (λ v. v < top) vs = All-from_get_or (λ v. v < top) vs 0 (λ i h. omega (arith, get_or-le-sum_by (λ v. v) vs i 0 h)) in
    let (x, fewer, enough) = crossing (λ x. below x vs) p top (omega (arith, below_zero vs)) (omega (arith, below_all top vs all)) in
    (x, record { fewer = fewer; enough = rw upto_below enough })

-- what has a position is one of the values
pub position_has : (p x : ℕ) (vs : List ℕ) → HasPosition p x vs → ContainsAt vs x
position_has p x vs h =
    let (v, e, has) = count_has (λ v. nat_eq v x) vs (omega (arith, below_more x vs, upto_below x vs, h.fewer, h.enough)) in
    subst (ContainsAt vs) (eqb-true v x e) has

passes : (p x : ℕ) (vs : List ℕ) → HasPosition p x vs → has_it p vs x ≡ true
passes p x vs h = and_from (nat_lt (below x vs) p) (nat_le p (at_or_below x vs)) (lt-ltb (below x vs) p h.fewer) (le-leb p (at_or_below x vs) h.enough)

passed : (p x : ℕ) (vs : List ℕ) → has_it p vs x ≡ true → HasPosition p x vs
passed p x vs e =
    let parts = and_parts (nat_lt (below x vs) p) (nat_le p (at_or_below x vs)) e in
    record { fewer = ltb-true (below x vs) p parts.0; enough = leb-true p (at_or_below x vs) parts.1 }

-- a test that some value passes is passed by the first such value
first_passes : (test : ℕ → Bool) (vs : List ℕ) (x : ℕ) → ContainsAt vs x → test x ≡ true → test (first_such test vs) ≡ true
first_passes test [] x has t = absurd (omega (arith, has.1))
first_passes test (v ∷ vs) x has t = at (test v) refl (λ h. first_passes test vs x h t)
  where
    later : test v ≡ false → (k : ℕ) → k < length (v ∷ vs) → ((d : ℕ) → slice_index_or (v ∷ vs) k d ≡ x) → ContainsAt vs x
    later e zero l reads = absurd (both_ways (test v) e (ap test (reads 0) ∙ t))
    later e (suc k) l reads = (k, omega arith, reads)

    at : (b : Bool) → test v ≡ b → (ContainsAt vs x → test (first_such test vs) ≡ true) → test (cond b v (first_such test vs)) ≡ true
    at true e rest = e
    at false e rest = rest (later e has.0 has.1 has.2)

-- the value at a position has that position
pub value_at_stands : (p : ℕ) (vs : List ℕ) → 0 < p → p ≤ length vs → HasPosition p (value_at p vs) vs
value_at_stands p vs some within =
    let (x, h) = position_exists p vs some within in
    passed p (value_at p vs) vs (first_passes (has_it p vs) vs x (position_has p x vs h) (passes p x vs h))

-- a number that has the position is the value at it
pub value_at_is : (p x : ℕ) (vs : List ℕ) → HasPosition p x vs → 0 < p → p ≤ length vs → x ≡ value_at p vs
value_at_is p x vs h some within = position_unique p x (value_at p vs) vs h (value_at_stands p vs some within)

-- the rank rule's answer
pub rank_stands : (setting : ℕ) (vs : List ℕ) → 1 ≤ length vs → HasPosition (rank_position setting (length vs)) (rank 0 setting vs) vs
rank_stands setting vs some = value_at_stands (rank_position setting (length vs)) vs (omega arith) (omega arith)

pub rank_has : (setting : ℕ) (vs : List ℕ) → 1 ≤ length vs → ContainsAt vs (rank 0 setting vs)
rank_has setting vs some = position_has (rank_position setting (length vs)) (rank 0 setting vs) vs (rank_stands setting vs some)

pub rank_all : (P : ℕ → Type 0) (setting : ℕ) (vs : List ℕ) → 1 ≤ length vs → AllByRecursion P vs → P (rank 0 setting vs)
rank_all P setting vs some all = all-has P vs (rank 0 setting vs) all (rank_has setting vs some)

pub rank_bounded : (chip setting : ℕ) (vs : List ℕ) → InRange chip vs → rank chip setting vs ≤ 1023
rank_bounded chip setting vs asked = rank_all (λ v. v ≤ 1023) setting vs asked.some asked.ten_bits

pub rank_between : StaysBetween rank
rank_between chip setting low high vs asked above upto = (rank_all (λ v. low ≤ v) setting vs asked.some above, rank_all (λ v. v ≤ high) setting vs asked.some upto)

pub rank_laws : RankLaws
rank_laws = record {
  answer_has_it = λ chip setting vs asked. rank_stands setting vs asked.some;
  no_other = λ chip setting x vs asked h. position_unique (rank_position setting (length vs)) x (rank chip setting vs) vs h (rank_stands setting vs asked.some);
  one_of_them = λ chip setting vs asked. rank_has setting vs asked.some;
}
