-- The clusters of a chip are just the longest runs of strips that belong.
use Rattle.std.proofs.Common.{◌≡◌, ℕ, zero, suc, ◌+◌, ◌-◌, ◌<◌, ◌≤◌, Bool, true, false, ◌⊎◌, List, [], ◌∷◌, length, get_or, sym, refl, ap, ◌∙◌, subst, inl, inr, ⊎_elim, arith}
use Rattle.std.specs.List.{ContainsAt, HoldsAt}
use Rattle.std.proofs.ByRecursion.{has_append_right}
use Rattle.std.proofs.lemmas.Bool.{both_ways, cases_eq, cases_lt, cases_order}
use Rattle.layout.specs.declared.run.Run.{Run}
use Rattle.clusters.specs.Clusters.{ended, runs_from}
use Rattle.clusters.specs.Laws.{Longest, ClustersAreLongestRuns}
use Rattle.clusters.proofs.Following.{ended_before}
use Rattle.clusters.proofs.Spacing.{ended_some}

-- ---- the runs that a list has
has_by_place : (x : Run) (xs : List Run) (r : Run) (k : ℕ) → k < length (x ∷ xs) → HoldsAt (λ y. y ≡ r) (x ∷ xs) k → (x ≡ r) ⊎ ContainsAt xs r
has_by_place x xs r zero l a = inl (a r)
has_by_place x xs r (suc k) l a = inr (k, omega arith, a)

has_cases : (x : Run) (xs : List Run) (r : Run) → ContainsAt (x ∷ xs) r → (x ≡ r) ⊎ ContainsAt xs r
has_cases x xs r h = has_by_place x xs r h.0 h.1 h.2

-- a run that ends, or one behind it
has_ended : (at n : ℕ) (rest : List Run) → 1 ≤ n → ContainsAt (ended at n rest) (record { address = at - n; strips = n })
has_ended at n rest some =
    subst (λ rs. ContainsAt rs (record { address = at - n; strips = n })) (sym (ended_some at n rest some)) (0, omega arith, λ d. refl)

has_behind : (at n : ℕ) (rest : List Run) (r : Run) → ContainsAt rest r → ContainsAt (ended at n rest) r
has_behind at n rest r h = subst (λ rs. ContainsAt rs r) (sym (ended_before at n rest)) (has_append_right (ended at n []) rest r h)

ended_cases :
    (at n : ℕ) (rest : List Run) (r : Run) →
    ContainsAt (ended at n rest) r →
    ((1 ≤ n) × (record { address = at - n; strips = n } ≡ r)) ⊎ ContainsAt rest r
ended_cases at zero rest r h = inr h
ended_cases at (suc n) rest r h =
    let some : 1 ≤ suc n = omega arith in
    ⊎_elim (λ e. inl (some, e)) inr
    (has_cases (record { address = at - suc n; strips = suc n }) rest r (subst (λ rs. ContainsAt rs r) (ended_some at (suc n) rest some) h))

-- ---- a place in a list of flags
-- what is left from a place on
abbrev Rest : List Bool → ℕ → List Bool → Type 0
Rest flags p rest = (p + length rest ≡ length flags) × ((k : ℕ) → get_or rest k false ≡ get_or flags (p + k) false)

-- the n flags before a place are true, and the one before them is not
abbrev Open : List Bool → ℕ → ℕ → Type 0
Open flags p n =
    (n ≤ p)
    × ((k : ℕ) → k < n → get_or flags (p - n + k) false ≡ true)
    × ((k : ℕ) → suc k + n ≡ p → get_or flags k false ≡ false)

flag : (flags : List Bool) (i j : ℕ) → i ≡ j → get_or flags i false ≡ get_or flags j false
flag flags i j e = ap (λ k. get_or flags k false) e

rest_more : (flags : List Bool) (p : ℕ) (b : Bool) (rest : List Bool) → Rest flags p (b ∷ rest) → Rest flags (p + 1) rest
rest_more flags p b rest h = (omega (arith, h.0), λ k. h.1 (suc k) ∙ flag flags (p + suc k) (p + 1 + k) (omega arith))

rest_here : (flags : List Bool) (p : ℕ) (rest : List Bool) → Rest flags p rest → get_or flags p false ≡ get_or rest 0 false
rest_here flags p rest h = flag flags p (p + 0) (omega arith) ∙ sym (h.1 0)

open_longer : (flags : List Bool) (p n : ℕ) → get_or flags p false ≡ true → Open flags p n → Open flags (p + 1) (n + 1)
open_longer flags p n e h =
    let few : n ≤ p = h.0 in (
      omega arith,
      λ k l.
          ⊎_elim (λ m. flag flags (p + 1 - (n + 1) + k) (p - n + k) (omega arith) ∙ h.1 k m)
          (λ m. flag flags (p + 1 - (n + 1) + k) p (omega arith) ∙ e)
          (cases_lt k n),
      λ k l. h.2 k (omega arith),
    )

open_none : (flags : List Bool) (p : ℕ) → get_or flags p false ≡ false → Open flags (p + 1) 0
open_none flags p e = (omega arith, λ k l. absurd (omega arith), λ k l. flag flags k p (omega arith) ∙ e)

-- ---- the run that ends at a place
ends_longest :
    (first : ℕ) (flags : List Bool) (at p n : ℕ) →
    at ≡ first + p →
    p ≤ length flags →
    1 ≤ n →
    Open flags p n →
    get_or flags p false ≡ false →
    Longest first flags (record { address = at - n; strips = n })
ends_longest first flags at p n e within some h free =
    let few : n ≤ p = h.0 in
    record {
      some = some;
      from = omega arith;
      within = omega arith;
      all = λ k l. flag flags (at - n - first + k) (p - n + k) (omega arith) ∙ h.1 k l;
      none_before = λ k l. h.2 k (omega arith);
      none_behind = flag flags (at - n - first + n) p (omega arith) ∙ free;
    }

run_is : (r : Run) (a n : ℕ) → a ≡ r.address → n ≡ r.strips → record { address = a; strips = n } ≡ r
run_is r a n e f = ap (λ x. record { address = x; strips = n }) e ∙ ap (λ x. record { address = r.address; strips = x }) f

-- a longest run that ends there has just the strips of the open run
ends_strips :
    (first : ℕ) (flags : List Bool) (p n : ℕ) (r : Run) →
    Open flags p n →
    Longest first flags r →
    r.address + r.strips ≡ first + p →
    n ≡ r.strips
ends_strips first flags p n r h l e =
    let few : n ≤ p = h.0 in
    let from : first ≤ r.address = l.from in
    ⊎_elim (λ same. same)
    (⊎_elim
    (λ less.
    let k : ℕ = p - n - 1 in
    absurd (both_ways (get_or flags k false) (h.2 k (omega arith))
    (flag flags k (r.address - first + (r.strips - n - 1)) (omega arith) ∙ l.all (r.strips - n - 1) (omega arith))))
    (λ more.
    let k : ℕ = p - r.strips - 1 in
    absurd (both_ways (get_or flags k false) (l.none_before k (omega arith))
    (flag flags k (p - n + (n - r.strips - 1)) (omega arith) ∙ h.1 (n - r.strips - 1) (omega arith)))))
    (cases_order n r.strips)

has_ending :
    (first : ℕ) (flags : List Bool) (at p n : ℕ) (rest : List Run) (r : Run) →
    at ≡ first + p →
    Open flags p n →
    Longest first flags r →
    r.address + r.strips ≡ at →
    ContainsAt (ended at n rest) r
has_ending first flags at p n rest r e h l f =
    let same : n ≡ r.strips = ends_strips first flags p n r h l (omega arith) in
    let some : 1 ≤ n = omega (arith, l.some) in
    subst (ContainsAt (ended at n rest)) (run_is r (at - n) n (omega arith) same) (has_ended at n rest some)

-- ---- each cluster is a longest run
sound :
    (first : ℕ) (flags : List Bool) (at p n : ℕ) (rest : List Bool) (r : Run) →
    at ≡ first + p →
    Rest flags p rest →
    Open flags p n →
    ContainsAt (runs_from at n rest) r →
    Longest first flags r
unfolding runs_from
sound first flags at p n [] r e s h has =
    ⊎_elim
    (λ here.
    subst (Longest first flags) here.1 (ends_longest first flags at p n e (omega (arith, s.0)) here.0 h (rest_here flags p [] s)))
    (λ none. absurd (omega (arith, none.1)))
    (ended_cases at n [] r has)
sound first flags at p n (true ∷ rest) r e s h has =
    sound first flags (at + 1) (p + 1) (n + 1) rest r (omega arith) (rest_more flags p true rest s)
    (open_longer flags p n (rest_here flags p (true ∷ rest) s) h) has
sound first flags at p n (false ∷ rest) r e s h has =
    let free = rest_here flags p (false ∷ rest) s in
    ⊎_elim
    (λ here. subst (Longest first flags) here.1 (ends_longest first flags at p n e (omega (arith, s.0)) here.0 h free))
    (sound first flags (at + 1) (p + 1) 0 rest r (omega arith) (rest_more flags p false rest s) (open_none flags p free))
    (ended_cases at n (runs_from (at + 1) 0 rest) r has)

-- ---- each longest run is a cluster
complete :
    (first : ℕ) (flags : List Bool) (at p n : ℕ) (rest : List Bool) (r : Run) →
    at ≡ first + p →
    Rest flags p rest →
    Open flags p n →
    Longest first flags r →
    at ≤ r.address + r.strips →
    ContainsAt (runs_from at n rest) r
unfolding runs_from
complete first flags at p n [] r e s h l ends =
    has_ending first flags at p n [] r e h l (omega (arith, l.within, s.0))
complete first flags at p n (true ∷ rest) r e s h l ends =
    let taken = rest_here flags p (true ∷ rest) s in
    ⊎_elim
    (λ here.
    absurd (both_ways (get_or flags p false)
    (flag flags p (r.address - first + r.strips) (omega (arith, l.from)) ∙ l.none_behind) taken))
    (λ away.
    complete first flags (at + 1) (p + 1) (n + 1) rest r (omega arith) (rest_more flags p true rest s) (open_longer flags p n taken h) l
    (omega arith))
    (cases_eq (r.address + r.strips) at)
complete first flags at p n (false ∷ rest) r e s h l ends =
    let free = rest_here flags p (false ∷ rest) s in
    ⊎_elim (λ here. has_ending first flags at p n (runs_from (at + 1) 0 rest) r e h l here)
    (λ away.
    has_behind at n (runs_from (at + 1) 0 rest) r
    (complete first flags (at + 1) (p + 1) 0 rest r (omega arith) (rest_more flags p false rest s) (open_none flags p free) l (omega arith)))
    (cases_eq (r.address + r.strips) at)

-- a chip's start
rest_all : (flags : List Bool) → Rest flags 0 flags
rest_all flags = (omega arith, λ k. flag flags k (0 + k) (omega arith))

open_start : (flags : List Bool) → Open flags 0 0
open_start flags = (omega arith, λ k l. absurd (omega arith), λ k l. absurd (omega arith))

pub clusters_are_longest_runs : ClustersAreLongestRuns
clusters_are_longest_runs first flags r = (
  sound first flags first 0 0 flags r (omega arith) (rest_all flags) (open_start flags),
  λ l. complete first flags first 0 0 flags r (omega arith) (rest_all flags) (open_start flags) l (omega (arith, l.from)),
)
