-- A ticker in Hunt locks on tick marks of period 70, and stays locked while they go on.
-- Assumes nothing.
use Rattle.std.proofs.Common.{◌≡◌, ℕ, zero, suc, ◌+◌, ◌-◌, ◌%◌, ◌<◌, ◌≤◌, Bool, true, false, cond, not, ◌&&◌, ◌||◌, eqb, ltb, ◌⊎◌, refl, ap, ◌∙◌, subst, inl, inr, add-suc, arith}
use Rattle.std.proofs.lemmas.Bool.{and_parts, or_cases, eqb-true, eqb-false, ltb-true, ne_eqb, both_ways}
use Rattle.terms.specs.declared.enable.Enable.{Enable}
use Rattle.terms.specs.declared.enable.Enable.TheVariants as enables
use Rattle.ticker.specs.declared.state.State.{State}
use Rattle.ticker.specs.declared.state.State.TheVariants.{Hunt, Trial, Locked, Check}
use Rattle.ticker.specs.Step.{sent, due, taken_as, first_due, judged, next}
use Rattle.ticker.specs.Runs.{Line, state_after}
use Rattle.ticker.specs.Laws.{Marks, LocksOnMarks}

-- a sample that is a 1 where it is judged leaves the way on
passed : {X : Type 0} (b l : Bool) (s t : X) → (b ≡ true → l ≡ true) → cond (b && not l) s t ≡ t
passed true true s t h = refl
passed true false s t h = absurd (both_ways false refl (h refl))
passed false l s t h = refl

not_begun : {X : Type 0} (f l : Bool) (s t : X) → (f ≡ true → l ≡ false) → cond (f && l) s t ≡ t
not_begun true true s t h = absurd (both_ways true (h refl) refl)
not_begun true false s t h = refl
not_begun false l s t h = refl

-- one sample in Trial and in Locked
trial_on : (e : Enable) (p : ℕ) (l : Bool) → (judged e (Trial p) ≡ true → l ≡ true)
    → next e (Trial p) l ≡ cond (eqb p 71) (Locked 2) (Trial (p + 1))
trial_on e p l h = passed (judged e (Trial p)) l Hunt (cond (eqb p 71) (Locked 2) (Trial (p + 1))) h

locked_on : (e : Enable) (p : ℕ) (l : Bool) → ((due e p && ltb p 2) ≡ true → l ≡ true) → (first_due e p ≡ true → l ≡ false)
    → next e (Locked p) l ≡ Locked (cond (eqb p 69) 0 (p + 1))
locked_on e p l h k =
    passed (due e p && ltb p 2) l Hunt (cond (first_due e p && l) (Check (p + 1)) (Locked (cond (eqb p 69) 0 (p + 1)))) h
    ∙ not_begun (first_due e p) l (Check (p + 1)) (Locked (cond (eqb p 69) 0 (p + 1))) k

-- the position after p, in a period of 70
around : (n : ℕ) → cond (eqb (n % 70) 69) 0 (n % 70 + 1) ≡ suc n % 70
around n = at (eqb (n % 70) 69) refl
  where
    at : (b : Bool) → eqb (n % 70) 69 ≡ b → cond b 0 (n % 70 + 1) ≡ suc n % 70
    at true q = omega (arith, eqb-true (n % 70) 69 q)
    at false q = omega (arith, eqb-false (n % 70) 69 q)

-- the 1 that ends the hunt stands at a due position 0 or 1
taken_due : (e : Enable) → sent e ≡ Hunt → due e (taken_as e) ≡ true
taken_due enables.Neither h = absurd (let z : ◌≡◌ {A = ℕ} 0 1 = cc in omega arith)
taken_due enables.Right h = refl
taken_due enables.Left h = refl
taken_due enables.Both h = refl

taken_below : (e : Enable) → taken_as e < 2
taken_below enables.Neither = omega arith
taken_below enables.Right = omega arith
taken_below enables.Left = omega arith
taken_below enables.Both = omega arith

module _ (e : Enable) (x : Line) (start : ℕ) (on : sent e ≡ Hunt) (marks : Marks e (λ n. x (start + n)))
    (quiet : (n : ℕ) → n < start + taken_as e → x n ≡ false) where
  -- a mark's 1 at a position p below 2, at the sample n
  one_at : (n p : ℕ) → n % 70 ≡ p → p < 2 → due e p ≡ true → x (start + n) ≡ true
  one_at n p q h d = (marks n).0 (ap (λ (i : ℕ). due e i) q ∙ d) (omega arith)

  hunting : (n : ℕ) → n ≤ start + taken_as e → state_after e Hunt x n ≡ Hunt
  unfolding state_after
  hunting zero h = refl
  hunting (suc n) h =
      ap (λ (t : State). next e t (x n)) (hunting n (omega arith)) ∙ ap (λ (l : Bool). next e Hunt l) (quiet n (omega arith))

  -- what Trial judges is a mark
  trial_mark : (n : ℕ) → judged e (Trial n) ≡ true → x (start + n) ≡ true
  trial_mark n j =
      let d = and_parts (due e n) (eqb n 1 || eqb n 70 || eqb n 71) j in
      at (or_cases (eqb n 1 || eqb n 70) (eqb n 71) d.1) d.0
    where
      early : (eqb n 1 ≡ true) ⊎ (eqb n 70 ≡ true) → due e n ≡ true → x (start + n) ≡ true
      early (inl q) d = one_at n 1 (ap (λ (i : ℕ). i % 70) (eqb-true n 1 q)) (omega arith) (subst (λ (i : ℕ). due e i ≡ true) (eqb-true n 1 q) d)
      early (inr q) d = one_at n 0 (ap (λ (i : ℕ). i % 70) (eqb-true n 70 q)) (omega arith) (subst (λ (i : ℕ). due e i ≡ true) (eqb-true n 70 q) d)

      at : ((eqb n 1 || eqb n 70) ≡ true) ⊎ (eqb n 71 ≡ true) → due e n ≡ true → x (start + n) ≡ true
      at (inl q) d = early (or_cases (eqb n 1) (eqb n 70) q) d
      at (inr q) d = one_at n 1 (ap (λ (i : ℕ). i % 70) (eqb-true n 71 q)) (omega arith) (subst (λ (i : ℕ). due e i ≡ true) (eqb-true n 71 q) d)

  step_on : (n : ℕ) (s : State) → state_after e Hunt x (start + n) ≡ s → state_after e Hunt x (start + suc n) ≡ next e s (x (start + n))
  unfolding state_after
  step_on n s q = ap (λ (i : ℕ). state_after e Hunt x i) (add-suc start n) ∙ ap (λ (t : State). next e t (x (start + n))) q

  -- the d-th sample after the one that ended the hunt
  trying : (d : ℕ) → d + taken_as e < 71 → state_after e Hunt x (start + suc (d + taken_as e)) ≡ Trial (suc (d + taken_as e))
  trying zero h =
      step_on (zero + taken_as e) Hunt (hunting (start + (zero + taken_as e)) (omega arith))
      ∙ ap (λ (l : Bool). next e Hunt l)
      (one_at (zero + taken_as e) (taken_as e) (omega (arith, taken_below e)) (taken_below e) (taken_due e on))
      ∙ ap Trial (omega arith)
  trying (suc d) h =
      let n : ℕ = suc (d + taken_as e) in
      let go : suc (suc d + taken_as e) ≡ suc n = omega arith in
      ap (λ (i : ℕ). state_after e Hunt x (start + i)) go
      ∙ step_on n (Trial n) (trying d (omega arith))
      ∙ trial_on e n (x (start + n)) (trial_mark n)
      ∙ ap (λ (b : Bool). cond b (Locked 2) (Trial (n + 1))) (ne_eqb n 71 (omega arith))
      ∙ ap Trial (omega arith)

  -- the d-th sample after the second mark
  locked : (d : ℕ) → state_after e Hunt x (start + (d + 72)) ≡ Locked ((d + 72) % 70)
  locked zero =
      ap (λ (i : ℕ). state_after e Hunt x (start + i)) (omega arith)
      ∙ step_on 71 (Trial 71) second
      ∙ trial_on e 71 (x (start + 71)) (trial_mark 71)
    where
      t : 70 - taken_as e + taken_as e ≡ 70
      t = omega (arith, taken_below e)

      second : state_after e Hunt x (start + 71) ≡ Trial 71
      second = subst (λ (i : ℕ). state_after e Hunt x (start + suc i) ≡ Trial (suc i)) t (trying (70 - taken_as e) (omega (arith, taken_below e)))
  locked (suc d) =
      let n : ℕ = d + 72 in
      ap (λ (i : ℕ). state_after e Hunt x (start + i)) (omega arith)
      ∙ step_on n (Locked (n % 70)) (locked d)
      ∙ locked_on e (n % 70) (x (start + n))
      (λ j. (marks n).0 (and_parts (due e (n % 70)) (ltb (n % 70) 2) j).0 (ltb-true (n % 70) 2 (and_parts (due e (n % 70)) (ltb (n % 70) 2) j).1))
      (marks n).1
      ∙ ap Locked (around n)
      ∙ ap (λ (i : ℕ). Locked (i % 70)) (omega arith)

pub locks_on_marks : LocksOnMarks
locks_on_marks e x start on marks quiet n h =
    let q : (n - 72) + 72 ≡ n = omega arith in
    subst (λ (i : ℕ). state_after e Hunt x (start + i) ≡ Locked (i % 70)) q (locked e x start on marks quiet (n - 72))
