-- A ticker that is Locked at 0 follows a frame that begins there.
-- Assumes nothing.
use Rattle.std.proofs.Common.{◌≡◌, ℕ, zero, suc, ◌+◌, ◌<◌, ◌≤◌, Bool, true, false, cond, eqb, ltb, leb, ◌⊎◌, sym, refl, ap, ◌∙◌, inl, inr, arith}
use Rattle.std.proofs.lemmas.Bool.{lt-leb, lt-ltb, le-ltb, ne_eqb, eqb-true, eqb-false, cases_lt}
use Rattle.terms.specs.declared.enable.Enable.{Enable}
use Rattle.terms.specs.declared.enable.Enable.TheVariants as enables
use Rattle.ticker.specs.declared.header.FrameHeader.{FrameHeader}
use Rattle.ticker.specs.declared.state.State.{State}
use Rattle.ticker.specs.declared.state.State.TheVariants.{Hunt, Locked, Check, Frame}
use Rattle.ticker.specs.Step.{sent, due, judged, next, pulses, heard}
use Rattle.ticker.specs.Runs.{Line, state_after, pulse_at}
use Rattle.ticker.specs.Laws.{FrameBegins, in_frame, FollowsAFrame}
use Rattle.ticker.proofs.Judged.{either_level, same_next, same_pulse}

-- ---- the first six positions

-- what holds at one of them: it is judged where it is due, and a 1 leads on, with a pulse at 5
pub record Opening (e : Enable) (n : ℕ) : Type 0 where
  pub judges : judged e (in_frame e n) ≡ due e n
  pub leads : next e (in_frame e n) true ≡ in_frame e (suc n)
  pub pulse : pulses e (in_frame e n) true ≡ eqb n 5
  pub keeps : (l : Bool) (h : FrameHeader) → heard e (in_frame e n) l h ≡ h

abbrev Openings : Enable → Type 0
Openings e = Opening e 0 × Opening e 1 × Opening e 2 × Opening e 3 × Opening e 4 × Opening e 5

openings : (e : Enable) → sent e ≡ Hunt → Openings e
openings enables.Neither on = absurd (let z : ◌≡◌ {A = ℕ} 0 1 = cc in omega arith)
openings enables.Right on = (
  record { judges = refl; leads = refl; pulse = refl; keeps = λ l h. refl },
  record { judges = refl; leads = refl; pulse = refl; keeps = λ l h. refl },
  record { judges = refl; leads = refl; pulse = refl; keeps = λ l h. refl },
  record { judges = refl; leads = refl; pulse = refl; keeps = λ l h. refl },
  record { judges = refl; leads = refl; pulse = refl; keeps = λ l h. refl },
  record { judges = refl; leads = refl; pulse = refl; keeps = λ l h. refl },
)
openings enables.Left on = (
  record { judges = refl; leads = refl; pulse = refl; keeps = λ l h. refl },
  record { judges = refl; leads = refl; pulse = refl; keeps = λ l h. refl },
  record { judges = refl; leads = refl; pulse = refl; keeps = λ l h. refl },
  record { judges = refl; leads = refl; pulse = refl; keeps = λ l h. refl },
  record { judges = refl; leads = refl; pulse = refl; keeps = λ l h. refl },
  record { judges = refl; leads = refl; pulse = refl; keeps = λ l h. refl },
)
openings enables.Both on = (
  record { judges = refl; leads = refl; pulse = refl; keeps = λ l h. refl },
  record { judges = refl; leads = refl; pulse = refl; keeps = λ l h. refl },
  record { judges = refl; leads = refl; pulse = refl; keeps = λ l h. refl },
  record { judges = refl; leads = refl; pulse = refl; keeps = λ l h. refl },
  record { judges = refl; leads = refl; pulse = refl; keeps = λ l h. refl },
  record { judges = refl; leads = refl; pulse = refl; keeps = λ l h. refl },
)

pub opening : (e : Enable) → sent e ≡ Hunt → (n : ℕ) → n < 6 → Opening e n
opening e on zero h = (openings e on).0
opening e on (suc zero) h = (openings e on).1
opening e on (suc (suc zero)) h = (openings e on).2
opening e on (suc (suc (suc zero))) h = (openings e on).3
opening e on (suc (suc (suc (suc zero)))) h = (openings e on).4
opening e on (suc (suc (suc (suc (suc zero))))) h = (openings e on).5
opening e on (suc (suc (suc (suc (suc (suc n)))))) h = absurd (omega arith)

-- ---- the other positions, and the end

past_opening : (b : Bool) (n : ℕ) → 6 ≤ n → leb n (cond b 2 3) ≡ false
past_opening true n h = lt-leb n 2 (omega arith)
past_opening false n h = lt-leb n 3 (omega arith)

-- from position 6 on the enable does not matter
pub inside : (e : Enable) (n : ℕ) → 6 ≤ n → in_frame e n ≡ cond (ltb n 280) (Frame n) (Locked 0)
inside e n h =
    ap (λ (b : Bool). cond b (Locked n) (cond (ltb n 6) (Check n) (cond (ltb n 280) (Frame n) (Locked 0)))) (past_opening (due e 2) n h)
    ∙ ap (λ (b : Bool). cond b (Check n) (cond (ltb n 280) (Frame n) (Locked 0))) (le-ltb n 6 h)

pub framed : (e : Enable) (n : ℕ) → 6 ≤ n → n < 280 → in_frame e n ≡ Frame n
framed e n h k = inside e n h ∙ ap (λ (b : Bool). cond b (Frame n) (Locked 0)) (lt-ltb n 280 k)

pub started : (e : Enable) → in_frame e 0 ≡ Locked 0
started enables.Neither = refl
started enables.Right = refl
started enables.Left = refl
started enables.Both = refl

pub ended : (e : Enable) → in_frame e 280 ≡ Locked 0
ended e = inside e 280 (omega arith)

frame_on : (e : Enable) (n : ℕ) (l : Bool) → 6 ≤ n → n < 280 → next e (Frame n) l ≡ in_frame e (suc n)
frame_on e n l h k = at (eqb n 279) refl
  where
    at : (b : Bool) → eqb n 279 ≡ b → cond b (Locked 0) (Frame (n + 1)) ≡ in_frame e (suc n)
    at true q = sym (ap (λ (i : ℕ). in_frame e (suc i)) (eqb-true n 279 q) ∙ ended e)
    at false q =
        let ne = eqb-false n 279 q in
        let up : n + 1 ≡ suc n = omega arith in
        ap Frame up ∙ sym (framed e (suc n) (omega arith) (omega (arith, ne)))

-- ---- the whole frame

module _ (e : Enable) (x : Line) (on : sent e ≡ Hunt) (begins : FrameBegins e x) where
  leads_on : (n : ℕ) → n < 280 → next e (in_frame e n) (x n) ≡ in_frame e (suc n)
  leads_on n h = at (cases_lt n 6)
    where
      at : (n < 6) ⊎ (6 ≤ n) → next e (in_frame e n) (x n) ≡ in_frame e (suc n)
      at (inl k) =
          let o = opening e on n k in
          either_level (judged e (in_frame e n)) (λ l. next e (in_frame e n) l) (x n) true
          (λ j. begins n k (sym o.judges ∙ j)) (same_next e (in_frame e n))
          ∙ o.leads
      at (inr k) = ap (λ (s : State). next e s (x n)) (framed e n k h) ∙ frame_on e n (x n) k h

  pub followed : (n : ℕ) → n ≤ 280 → state_after e (Locked 0) x n ≡ in_frame e n
  unfolding state_after
  followed zero h = sym (started e)
  followed (suc n) h = ap (λ (s : State). next e s (x n)) (followed n (omega arith)) ∙ leads_on n (omega arith)

  pulsed : (n : ℕ) → n < 280 → pulse_at e (Locked 0) x n ≡ eqb n 5
  pulsed n h = ap (λ (s : State). pulses e s (x n)) (followed n (omega arith)) ∙ at (cases_lt n 6)
    where
      at : (n < 6) ⊎ (6 ≤ n) → pulses e (in_frame e n) (x n) ≡ eqb n 5
      at (inl k) =
          let o = opening e on n k in
          either_level (judged e (in_frame e n)) (λ l. pulses e (in_frame e n) l) (x n) true
          (λ j. begins n k (sym o.judges ∙ j)) (same_pulse e (in_frame e n))
          ∙ o.pulse
      at (inr k) = ap (λ (s : State). pulses e s (x n)) (framed e n k h) ∙ sym (ne_eqb n 5 (omega arith))

pub follows_a_frame : FollowsAFrame
follows_a_frame e x on begins =
    (pulsed e x on begins, followed e x on begins, followed e x on begins 280 (omega arith) ∙ ended e)
