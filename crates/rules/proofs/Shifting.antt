-- The shift law of the rank rule and of the mean rule, from what they do with values that are raised.
-- Assumes nothing.
use Rattle.std.proofs.Common.{◌≡◌, ℕ, suc, ◌+◌, ◌*◌, ◌≤◌, ltb, List, [], ◌∷◌, length, pos, negsuc, ◌+ℤ◌, sum, sym, refl, ap, ◌∙◌, suc-mul, zero-mul, arith}
use native.Mathlib.Nat.{add-mul-div_left}
use Rattle.std.specs.List.{AllZip}
use Rattle.std.proofs.lemmas.List.Elements.{length_all_zip}
use Rattle.std.proofs.lemmas.Int.{ints}
use Rattle.std.proofs.lemmas.List.Sums.{sum_by-cons}
use Rattle.std.proofs.lemmas.Bool.Decides.{nat_tests}
use Rattle.rules.specs.Rules.{Meaning, below, HasPosition, value_at, rank, rank_position, mean, ShiftLaw}
use Rattle.rules.specs.Counts.{mark, count_cons, upto_below}
use Rattle.rules.specs.Positions.{value_at_is, value_at_stands}

-- ws is vs with k added to each value
abbrev Raised : ℕ → List ℕ → List ℕ → Type 0
Raised k vs ws = AllZip (λ v w. w ≡ v + k) vs ws

-- a rule whose answer is raised with the values
abbrev Rises : Meaning → Type 0
Rises meaning = (chip setting k : ℕ) (vs ws : List ℕ) → 1 ≤ length vs → Raised k vs ws → meaning chip setting ws ≡ meaning chip setting vs + k

each_map : (R Q : ℕ → ℕ → Type 0) → ((v w : ℕ) → R v w → Q v w) → (vs ws : List ℕ) → AllZip R vs ws → AllZip Q vs ws
each_map R Q f [] [] h = tt
each_map R Q f [] (w ∷ ws) h = h
each_map R Q f (v ∷ vs) [] h = h
each_map R Q f (v ∷ vs) (w ∷ ws) h = (f v w h.0, each_map R Q f vs ws h.1)

each_flip : (R Q : ℕ → ℕ → Type 0) → ((v w : ℕ) → R v w → Q w v) → (vs ws : List ℕ) → AllZip R vs ws → AllZip Q ws vs
each_flip R Q f [] [] h = tt
each_flip R Q f [] (w ∷ ws) h = h
each_flip R Q f (v ∷ vs) [] h = h
each_flip R Q f (v ∷ vs) (w ∷ ws) h = (f v w h.0, each_flip R Q f vs ws h.1)

-- a shift down is a raise the other way round
pub shift_law : (meaning : Meaning) → Rises meaning → ShiftLaw meaning
shift_law meaning rises chip setting vs ws (pos k) _ _ some _ _ _ shifted =
    let raised : Raised k vs ws = each_map (λ v w. pos w ≡ pos v +ℤ pos k) (λ v w. w ≡ v + k) (λ v w e. omega (arith, ints)) vs ws shifted in
    ap pos (rises chip setting k vs ws some raised)
shift_law meaning rises chip setting vs ws (negsuc k) _ _ some _ _ _ shifted =
    let raised : Raised (suc k) ws vs = each_flip (λ v w. pos w ≡ pos v +ℤ negsuc k) (λ w v. v ≡ w + suc k) (λ v w e. omega (arith, ints)) vs ws shifted in
    let same : length vs ≡ length ws = length_all_zip (λ v w. pos w ≡ pos v +ℤ negsuc k) vs ws shifted in
    let up = rises chip setting (suc k) ws vs (omega arith) raised in
    omega (arith, ints, up)

raised_below : (k x : ℕ) (vs ws : List ℕ) → Raised k vs ws → below (x + k) ws ≡ below x vs
raised_below k x [] [] h = refl
raised_below k x [] (w ∷ ws) h = absurd h
raised_below k x (v ∷ vs) [] h = absurd h
raised_below k x (v ∷ vs) (w ∷ ws) h =
    let rest = raised_below k x vs ws h.1 in
    let e : w ≡ v + k = h.0 in
    let here : mark (ltb w (x + k)) ≡ mark (ltb v x) = grind (arith, nat_tests) in
    rw (count_cons (λ u. ltb u (x + k)) w ws, count_cons (λ u. ltb u x) v vs) (omega (arith, here, rest))

raised_position : (k p x : ℕ) (vs ws : List ℕ) → Raised k vs ws → HasPosition p x vs → HasPosition p (x + k) ws
raised_position k p x vs ws raised h =
    let e : x + k + 1 ≡ x + 1 + k = omega arith in
    let up : below (x + k + 1) ws ≡ below (x + 1) vs = ap (λ y. below y ws) e ∙ raised_below k (x + 1) vs ws raised in
    record {
      fewer = omega (arith, raised_below k x vs ws raised, h.fewer);
      enough = omega (arith, up, upto_below (x + k) ws, upto_below x vs, h.enough);
    }

rank_rises : Rises rank
rank_rises chip setting k vs ws some raised =
    let same : length vs ≡ length ws = length_all_zip (λ v w. w ≡ v + k) vs ws raised in
    let p : ℕ = rank_position setting (length vs) in
    let was = value_at_stands p vs (omega arith) (omega arith) in
    let now : HasPosition p (value_at p vs + k) ws = raised_position k p (value_at p vs) vs ws raised was in
    let is : value_at p vs + k ≡ value_at p ws = value_at_is p (value_at p vs + k) ws now (omega arith) (omega arith) in
    ap (λ n. value_at (rank_position setting n) ws) (sym same) ∙ sym is

raised_sum : (k : ℕ) (vs ws : List ℕ) → Raised k vs ws → sum ws ≡ sum vs + length vs * k
raised_sum k [] [] h = omega (arith, zero-mul k)
raised_sum k [] (w ∷ ws) h = absurd h
raised_sum k (v ∷ vs) [] h = absurd h
raised_sum k (v ∷ vs) (w ∷ ws) h =
    rw (sum_by-cons (λ x. x) w ws, sum_by-cons (λ x. x) v vs) (omega (arith, h.0, raised_sum k vs ws h.1, suc-mul (length vs) k))

mean_rises : Rises mean
mean_rises chip setting k vs ws some raised =
    let same : length vs ≡ length ws = length_all_zip (λ v w. w ≡ v + k) vs ws raised in
    rw (← same, raised_sum k vs ws raised) (add-mul-div_left (sum vs) k some)

pub rank_shifts : ShiftLaw rank
rank_shifts = shift_law rank rank_rises

pub mean_shifts : ShiftLaw mean
mean_shifts = shift_law mean mean_rises

-- the values 0 and 1: a shift by 1 would move an answer that does not look at them
pub still_lacks : (answer : ℕ → ℕ → ℕ) → ShiftLaw (λ chip setting vs. answer chip setting) → ⊥
still_lacks answer law =
    let moved = law 0 0 (0 ∷ []) (1 ∷ []) (pos 1) (omega arith) (omega arith) (omega arith) (omega arith) (omega arith, tt) (omega arith, tt) (refl, tt) in
    omega (arith, ints, moved)
