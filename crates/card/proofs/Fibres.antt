-- Lists of one thing for each of the twelve fibres.
-- Assumes nothing.
use Rattle.std.proofs.Common.{◌≡◌, ℕ, zero, suc, ◌+◌, ◌<◌, ◌≤◌, Bool, true, false, cond, ltb, List, [], ◌∷◌, ◌++◌, length, get_or, set, Some, None, sum, sum_by, sym, refl, ap, ◌∙◌, ⊎_elim, arith}
use Rattle.std.specs.List.{range_with_len}
use Rattle.std.proofs.lemmas.List.FromFn.{fill_by_all, map-range_with_len_more}
use Rattle.std.proofs.lemmas.List.{map-id, get_or-set_same, get_or-set_other}
use Rattle.std.proofs.lemmas.List.Sums.{sum-map, sum_by_push}
use Rattle.std.proofs.lemmas.Bool.{cases_eq, cases_lt, cond-true, cond-false, lt-ltb, le-ltb}
use Rattle.card_model.specs.Fibres.{for_fibres, total, first_of, lowest}
use Rattle.card_model.specs.Readout.{event_length}
use Rattle.card_model.specs.Clock.{too_large}
use Rattle.card_model.proofs.Fibres.{lowest_none}

-- a list of twelve whose elements are known
pub filled : {X : Type 0} (g : ℕ → X) (xs : List X) (d : X) → length xs ≡ 12 → ((f : ℕ) → f < 12 → get_or xs f d ≡ g f) → xs ≡ for_fibres g
unfolding for_fibres
filled g xs d long each = fill_by_all g xs 12 d long each

-- the first i of a list are as a function says, the others as they were
pub record Upto {X : Type 0} (g : ℕ → X) (d : X) (before : List X) (i : ℕ) (xs : List X) : Type 0 where
  pub at : (f : ℕ) → f < 12 → get_or xs f d ≡ cond (ltb f i) (g f) (get_or before f d)

module _ {X : Type 0} (g : ℕ → X) (d : X) (before : List X) where
  pub upto_none : Upto g d before 0 before
  upto_none = record { at = λ f h. sym (cond-false (ltb f 0) (g f) (get_or before f d) (le-ltb f 0 (omega arith))) }

  pub upto_here : (i : ℕ) (xs : List X) → i < 12 → Upto g d before i xs → get_or xs i d ≡ get_or before i d
  upto_here i xs h inv = inv.at i h ∙ cond-false (ltb i i) (g i) (get_or before i d) (le-ltb i i (omega arith))

  pub upto_more : (i : ℕ) (xs : List X) (x : X) → i < 12 → length xs ≡ 12 → Upto g d before i xs → x ≡ g i → Upto g d before (i + 1) (set xs i x)
  upto_more i xs x below long inv e =
      record {
        at =
            λ f h.
            ⊎_elim
            (λ same.
            ap (λ (n : ℕ). get_or (set xs i x) n d) same
            ∙ (get_or-set_same xs i x d (omega arith)
            ∙ (e ∙ (sym (ap g same) ∙ sym (cond-true (ltb f (i + 1)) (g f) (get_or before f d) (lt-ltb f (i + 1) (omega arith)))))))
            (λ other.
            get_or-set_other xs i f x d other
            ∙ (inv.at f h
            ∙ ap (λ (b : Bool). cond b (g f) (get_or before f d))
            (⊎_elim (λ l. lt-ltb f i l ∙ sym (lt-ltb f (i + 1) (omega arith))) (λ l. le-ltb f i l ∙ sym (le-ltb f (i + 1) (omega arith))) (cases_lt f i))))
            (cases_eq f i);
      }

  pub upto_all : (i : ℕ) (xs : List X) → 12 ≤ i → length xs ≡ 12 → Upto g d before i xs → xs ≡ for_fibres g
  upto_all i xs all long inv =
      filled g xs d long (λ f h. inv.at f h ∙ cond-true (ltb f i) (g f) (get_or before f d) (lt-ltb f i (omega arith)))

-- the length of an event is the sum of its records' lengths
pub sum_of_lengths : (lengths : List ℕ) → length lengths ≡ 12 → sum lengths ≡ event_length lengths
unfolding for_fibres total
sum_of_lengths lengths long =
    ap sum (filled (λ f. get_or lengths f 0) lengths 0 long (λ f h. refl)) ∙ sum-map (λ (f : ℕ). get_or lengths f 0) (range_with_len 0 12)

-- a sum over the fibres, one more
pub counting_more : (n : ℕ) → range_with_len 0 (n + 1) ≡ range_with_len 0 n ++ n ∷ []
counting_more n =
    sym (map-id (range_with_len 0 (n + 1)))
    ∙ (map-range_with_len_more (λ (x : ℕ). x) 0 n n (omega arith) ∙ ap (λ (xs : List ℕ). xs ++ n ∷ []) (map-id (range_with_len 0 n)))

pub sum_more : (g : ℕ → ℕ) (n : ℕ) → sum_by g (range_with_len 0 (n + 1)) ≡ sum_by g (range_with_len 0 n) + g n
sum_more g n = ap (sum_by g) (counting_more n) ∙ sum_by_push g (range_with_len 0 n) n

-- the lowest fibre that passes a test
first_at : (p : ℕ → Bool) (a n f : ℕ) → a ≤ f → f < a + n → p f ≡ true → ((k : ℕ) → a ≤ k → k < f → p k ≡ false) → first_of p (range_with_len a n) ≡ Some f
first_at p a zero f low high passes none = absurd (omega arith)
first_at p a (suc n) f low high passes none =
    ⊎_elim
    (λ same.
    cond-true (p a) (Some a) (first_of p (range_with_len (a + 1) n)) (ap p same ∙ passes) ∙ ap Some same)
    (λ other.
    cond-false (p a) (Some a) (first_of p (range_with_len (a + 1) n)) (none a (omega arith) (omega arith))
    ∙ first_at p (a + 1) n f (omega arith) (omega arith) passes (λ k l h. none k (omega arith) h))
    (cases_eq a f)

pub lowest_some : (p : ℕ → Bool) (f : ℕ) → f < 12 → p f ≡ true → ((k : ℕ) → k < f → p k ≡ false) → Some f ≡ lowest p
unfolding lowest
lowest_some p f h passes none = sym (first_at p 0 12 f (omega arith) (omega arith) passes (λ k l. none k))

-- the lowest fibre whose sample is above 1023
pub some_too_large : (samples : List ℕ) (f : ℕ) → f < 12 → 1023 < get_or samples f 0
    → ((k : ℕ) → k < f → ltb 1023 (get_or samples k 0) ≡ false) → Some f ≡ too_large samples
unfolding too_large
some_too_large samples f h over none = lowest_some (λ g. ltb 1023 (get_or samples g 0)) f h (lt-ltb 1023 (get_or samples f 0) over) none

pub none_too_large : (samples : List ℕ) (i : ℕ) → 12 ≤ i → ((k : ℕ) → k < i → ltb 1023 (get_or samples k 0) ≡ false) → None ≡ too_large samples
unfolding too_large
none_too_large samples i all none = sym (lowest_none (λ g. ltb 1023 (get_or samples g 0)) (λ f h. none f (omega arith)))
