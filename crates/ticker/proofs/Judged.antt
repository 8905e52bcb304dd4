-- A sample is judged exactly if its level matters, and so all that a ticker does depends on the judged samples alone.
-- Assumes nothing.
use Rattle.std.proofs.Common.{◌≡◌, ℕ, zero, suc, ◌+◌, Bool, true, false, cond, not, ◌&&◌, ◌||◌, eqb, ltb, ◌≢◌, sym, refl, ap, ◌∙◌, ap₂, arith}
use Rattle.std.proofs.lemmas.Bool.{and_parts, eqb-true, ltb-true, both_ways}
use Rattle.terms.specs.declared.enable.Enable.{Enable}
use Rattle.terms.specs.declared.pair.Side.{Side}
use Rattle.terms.specs.declared.pair.Side.TheVariants.{Left, Right}
use Rattle.ticker.specs.declared.header.FrameHeader.{FrameHeader}
use Rattle.ticker.specs.declared.state.State.{State}
use Rattle.ticker.specs.declared.state.State.TheVariants.{Off, Hunt, Trial, Locked, Check, Frame}
use Rattle.ticker.specs.Step.{side_of, due, first_due, judged, next, pulses, heard, with_bit, with_error}
use Rattle.ticker.specs.Runs.{Line, state_after, header_after, pulse_at}
use Rattle.ticker.specs.Laws.{outcome, JudgedAlone, JudgedExactly}

-- which state it is, so that two states can be told apart
abbrev name : State → ℕ
name Off = 0
name Hunt = 1
name (Trial p) = 2
name (Locked p) = 3
name (Check p) = 4
name (Frame p) = 5

-- ---- a sample that is not judged

-- a test that is false makes no difference to what a 0 does
idle : {X : Type 0} (b : Bool) (s t : X) → b ≡ false → cond (b && not true) s t ≡ cond (b && not false) s t
idle true s t h = absurd (both_ways true h refl)
idle false s t h = refl

locked_idle : (a f : Bool) (s t u : State) → (a || f) ≡ false
    → cond (a && not true) s (cond (f && true) t u) ≡ cond (a && not false) s (cond (f && false) t u)
locked_idle true f s t u h = absurd (both_ways true h refl)
locked_idle false true s t u h = absurd (both_ways true h refl)
locked_idle false false s t u h = refl

pulse_idle : (d a : Bool) → d ≡ false → (a && not (d && not true)) ≡ (a && not (d && not false))
pulse_idle true a h = absurd (both_ways true h refl)
pulse_idle false a h = refl

heard_idle : (b : Bool) (f g : Bool → FrameHeader) (c : Bool) (h : FrameHeader) → b ≡ false
    → cond b (cond c (f true) (g true)) h ≡ cond b (cond c (f false) (g false)) h
heard_idle true f g c h e = absurd (both_ways true e refl)
heard_idle false f g c h e = refl

pub same_next : (e : Enable) (s : State) → judged e s ≡ false → next e s true ≡ next e s false
same_next e Off h = refl
same_next e Hunt h = absurd (both_ways true h refl)
same_next e (Trial p) h = idle (judged e (Trial p)) Hunt (cond (eqb p 71) (Locked 2) (Trial (p + 1))) h
same_next e (Locked p) h =
    locked_idle (due e p && ltb p 2) (first_due e p) Hunt (Check (p + 1)) (Locked (cond (eqb p 69) 0 (p + 1))) h
same_next e (Check p) h = idle (due e p) Hunt (cond (eqb p 5) (Frame 6) (Check (p + 1))) h
same_next e (Frame p) h = refl

pub same_pulse : (e : Enable) (s : State) → judged e s ≡ false → pulses e s true ≡ pulses e s false
same_pulse e Off h = refl
same_pulse e Hunt h = refl
same_pulse e (Trial p) h = refl
same_pulse e (Locked p) h = refl
same_pulse e (Check p) h = pulse_idle (due e p) (eqb p 5) h
same_pulse e (Frame p) h = refl

pub same_header : (e : Enable) (s : State) (h : FrameHeader) → judged e s ≡ false → heard e s true h ≡ heard e s false h
same_header e Off h j = refl
same_header e Hunt h j = refl
same_header e (Trial p) h j = refl
same_header e (Locked p) h j = refl
same_header e (Check p) h j = refl
same_header e (Frame p) h j =
    heard_idle (judged e (Frame p)) (λ l. with_bit h (side_of p) l) (λ l. with_error h (side_of p) l) (ltb p 22) h j

-- ---- a sample that is judged

-- states of two names are two states
apart : {s t : State} → name s ≢ name t → s ≢ t
apart n q = n (ap name q)

-- a test that is true lets a 0 do something else than a 1
told : (b : Bool) (s t : State) → b ≡ true → name t ≢ name s → cond (b && not true) s t ≢ cond (b && not false) s t
told true s t h n = apart n
told false s t h n = absurd (both_ways false refl h)

-- neither way on from Trial or Check leads to Hunt
on_from_trial : (c : Bool) (p : ℕ) → name (cond c (Locked 2) (Trial p)) ≢ 1
on_from_trial true p = omega arith
on_from_trial false p = omega arith

on_from_check : (c : Bool) (p : ℕ) → name (cond c (Frame 6) (Check p)) ≢ 1
on_from_check true p = omega arith
on_from_check false p = omega arith

-- in Locked the marks' positions are not the first due one from 2
locked_told : (a f : Bool) (p q : ℕ) → (a || f) ≡ true → (a ≡ true → f ≡ true → ⊥)
    → cond (a && not true) Hunt (cond (f && true) (Check p) (Locked q)) ≢ cond (a && not false) Hunt (cond (f && false) (Check p) (Locked q))
locked_told true true p q h x = absurd (x refl refl)
locked_told true false p q h x = apart (omega arith)
locked_told false true p q h x = apart (omega arith)
locked_told false false p q h x = absurd (both_ways false refl h)

pub first_due_past_marks : (e : Enable) (p : ℕ) → ltb p 2 ≡ true → first_due e p ≡ true → ⊥
first_due_past_marks e p h f = after (due e 2) (eqb-true p (cond (due e 2) 2 3) (and_parts (due e p) (eqb p (cond (due e 2) 2 3)) f).1)
  where
    after : (b : Bool) → p ≡ cond b 2 3 → ⊥
    after true q = omega (arith, ltb-true p 2 h)
    after false q = omega (arith, ltb-true p 2 h)

bit_told : (side : Side) (h : FrameHeader) → with_bit h side true ≢ with_bit h side false
bit_told Left h q = omega (arith, ap (λ (g : FrameHeader). g.bytes.left) q)
bit_told Right h q = omega (arith, ap (λ (g : FrameHeader). g.bytes.right) q)

error_told : (side : Side) (h : FrameHeader) → with_error h side true ≢ with_error h side false
error_told Left h q = both_ways true (ap (λ (g : FrameHeader). g.good.left) q) refl
error_told Right h q = both_ways true (ap (λ (g : FrameHeader). g.good.right) q) refl

heard_told : (b c : Bool) (side : Side) (h : FrameHeader) → b ≡ true
    → cond b (cond c (with_bit h side true) (with_error h side true)) h ≢ cond b (cond c (with_bit h side false) (with_error h side false)) h
heard_told true true side h j = bit_told side h
heard_told true false side h j = error_told side h
heard_told false c side h j = absurd (both_ways false refl j)

pub matters : (e : Enable) (s : State) (h : FrameHeader) → judged e s ≡ true → outcome e s h true ≢ outcome e s h false
matters e Off h j q = both_ways false refl j
matters e Hunt h j q = apart (omega arith) (ap (λ (o : State × Bool × FrameHeader). o.0) q)
matters e (Trial p) h j q =
    told (judged e (Trial p)) Hunt (cond (eqb p 71) (Locked 2) (Trial (p + 1))) j (on_from_trial (eqb p 71) (p + 1))
    (ap (λ (o : State × Bool × FrameHeader). o.0) q)
matters e (Locked p) h j q =
    locked_told (due e p && ltb p 2) (first_due e p) (p + 1) (cond (eqb p 69) 0 (p + 1)) j
    (λ a f. first_due_past_marks e p (and_parts (due e p) (ltb p 2) a).1 f)
    (ap (λ (o : State × Bool × FrameHeader). o.0) q)
matters e (Check p) h j q =
    told (due e p) Hunt (cond (eqb p 5) (Frame 6) (Check (p + 1))) j (on_from_check (eqb p 5) (p + 1))
    (ap (λ (o : State × Bool × FrameHeader). o.0) q)
matters e (Frame p) h j q =
    heard_told (judged e (Frame p)) (ltb p 22) (side_of p) h j (ap (λ (o : State × Bool × FrameHeader). o.2) q)

pub judged_exactly : JudgedExactly
judged_exactly e s h = (
  λ j. alike (same_next e s j) (same_pulse e s j) (same_header e s h j),
  matters e s h,
)
  where
    alike : {a b : State} {p q : Bool} {g k : FrameHeader} → a ≡ b → p ≡ q → g ≡ k
        → ◌≡◌ {A = State × Bool × FrameHeader} (a, p, g) (b, q, k)
    alike x y z = cc

-- ---- two lines with equal levels at each judged sample

-- a part of the outcome is the same at two levels that are equal if the sample is judged
pub either_level : {X : Type 0} (j : Bool) (f : Bool → X) (a b : Bool) → (j ≡ true → a ≡ b) → (j ≡ false → f true ≡ f false) → f a ≡ f b
either_level true f a b h k = ap f (h refl)
either_level false f true true h k = refl
either_level false f true false h k = k refl
either_level false f false true h k = sym (k refl)
either_level false f false false h k = refl

module _ (e : Enable) (s : State) (x y : Line) (same : (n : ℕ) → judged e (state_after e s x n) ≡ true → x n ≡ y n) where
  pub same_states : (n : ℕ) → state_after e s x n ≡ state_after e s y n
  unfolding state_after
  same_states zero = refl
  same_states (suc n) =
      either_level (judged e (state_after e s x n)) (λ l. next e (state_after e s x n) l) (x n) (y n) (same n) (same_next e (state_after e s x n))
      ∙ ap (λ (t : State). next e t (y n)) (same_states n)

  pub same_pulses : (n : ℕ) → pulse_at e s x n ≡ pulse_at e s y n
  same_pulses n =
      either_level (judged e (state_after e s x n)) (λ l. pulses e (state_after e s x n) l) (x n) (y n) (same n) (same_pulse e (state_after e s x n))
      ∙ ap (λ (t : State). pulses e t (y n)) (same_states n)

  pub same_headers : (h : FrameHeader) (n : ℕ) → header_after e s h x n ≡ header_after e s h y n
  unfolding header_after
  same_headers h zero = refl
  same_headers h (suc n) =
      either_level (judged e (state_after e s x n)) (λ l. heard e (state_after e s x n) l (header_after e s h x n)) (x n) (y n) (same n)
      (same_header e (state_after e s x n) (header_after e s h x n))
      ∙ ap₂ (λ (t : State) (g : FrameHeader). heard e t (y n) g) (same_states n) (same_headers h n)

pub judged_alone : JudgedAlone
judged_alone e s h x y same n = (same_states e s x y same n, same_pulses e s x y same n, same_headers e s x y same h n)
