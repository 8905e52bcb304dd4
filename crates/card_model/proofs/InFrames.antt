-- A fibre in step stays inside its frame as long as the capture runs.
-- Assumes nothing.
use Rattle.std.proofs.Common.{◌≡◌, ℕ, ◌+◌, ◌<◌, Bool, true, false, cond, not, ◌&&◌, eqb, List, [], ◌∷◌, get_or, Ok, Option, sym, refl, ap, ◌∙◌, subst, arith}
use Rattle.terms.specs.declared.enable.Enable.{Enable}
use Rattle.rules.specs.Rules.{Meaning}
use Rattle.settings.specs.Settings.{of_fibre}
use Rattle.ticker.specs.declared.state.State.{State}
use Rattle.ticker.specs.declared.state.State.TheVariants.{Off, Hunt, Trial, Locked, Check, Frame}
use Rattle.ticker.specs.Step.{due, next, pulses}
use Rattle.synch.specs.Vote.{event}
use Rattle.card_model.specs.Calls.{Call}
use Rattle.card_model.specs.State.{CardState, Capture, Watch, watch_of, off, fresh}
use Rattle.card_model.specs.Clock.{Outcome, level_in, ticked, watches_after, pulses_with, standings, begun, sought, within, completing, last_position}
use Rattle.card_model.specs.Step.{loaded, step}
use Rattle.card_model.specs.Runs.{state_after}
use Rattle.card_model.specs.InStep.{InFrame, StepsStay}
use Rattle.card_model.proofs.Fibres.{get_or_for}
use Rattle.card_model.proofs.Ways.{watches_then, Ways, each_way}

never : false ≡ true → ⊥
never e = let z : ◌≡◌ {A = ℕ} 0 1 = cc in omega arith

-- the step that pulses enters a frame at position 6
by_tests : (a b : Bool) (s : State) → (a && not b) ≡ true → cond b Hunt (cond a (Frame 6) s) ≡ Frame 6
by_tests true true s e = absurd (never e)
by_tests true false s e = refl
by_tests false b s e = absurd (never e)

pulse_enters : (e : Enable) (s : State) (l : Bool) → pulses e s l ≡ true → next e s l ≡ Frame 6
pulse_enters e Off l h = absurd (never h)
pulse_enters e Hunt l h = absurd (never h)
pulse_enters e (Trial p) l h = absurd (never h)
pulse_enters e (Locked p) l h = absurd (never h)
pulse_enters e (Check p) l h = by_tests (eqb p 5) (due e p && not l) (Check (p + 1)) h
pulse_enters e (Frame p) l h = absurd (never h)

-- a frame goes on until its last position
frame_goes_on : (e : Enable) (s : State) (l : Bool) (p : ℕ) → s ≡ Frame p → eqb p last_position ≡ false → next e s l ≡ Frame (p + 1)
frame_goes_on e s l p is on =
    subst (λ (t : State). next e t l ≡ Frame (p + 1)) (sym is) (ap (λ (b : Bool). cond b (Locked 0) (Frame (p + 1))) on)

-- the ticker of a fibre after a Clock
ticker_then : (s : CardState) (samples : List ℕ) (f : ℕ) → f < 12
    → watch_of (watches_then s samples) f ≡ ticked (of_fibre s.settings f) (get_or samples f 0) (watch_of s.watches f)
unfolding watches_after
ticker_then s samples f h = get_or_for (λ g. ticked (of_fibre s.settings g) (get_or samples g 0) (watch_of s.watches g)) f off h

begun_in_frame : (s : CardState) (samples : List ℕ) (t : CardState) (b : Bool) → t.watches ≡ watches_then s samples
    → InFrame t (begun (pulses_with s.settings s.watches samples) b)
unfolding pulses_with
begun_in_frame s samples t false e = tt
begun_in_frame s samples t true e =
    λ f h in_step.
    let level = level_in (of_fibre s.settings f) (get_or samples f 0) in
    let pulsed : pulses (of_fibre s.settings f).enable (watch_of s.watches f).state level ≡ true =
    sym (get_or_for (λ g. pulses (of_fibre s.settings g).enable (watch_of s.watches g).state (level_in (of_fibre s.settings g) (get_or samples g 0))) f false h)
    ∙ in_step
    in
    ap (λ (ws : List Watch). (watch_of ws f).state) e
    ∙ (ap (λ (w : Watch). w.state) (ticker_then s samples f h)
    ∙ pulse_enters (of_fibre s.settings f).enable (watch_of s.watches f).state level pulsed)

abbrev Stays : Call → Outcome → Type 0
Stays c o = InFrame o.next_card o.next_card.capture

module _ (meaning : Meaning) (s : CardState) (k : InFrame s s.capture) where
  ways : Ways meaning s Stays
  unfolding sought within completing
  ways =
      record {
        same = λ c p none. k;
        takes = λ word setting o e. subst (λ (x : Option Capture). InFrame (loaded s (Ok setting)).next_card x) (sym o) tt;
        seeks =
            λ samples t e.
            let pulsed = pulses_with s.settings s.watches samples in
            begun_in_frame s samples (sought s (watches_then s samples) pulsed).next_card
            (event (standings s.settings (watches_then s samples) pulsed)) refl;
        goes_on =
            λ samples c t e p f h in_step.
            ap (λ (w : Watch). w.state) (ticker_then s samples f h)
            ∙ frame_goes_on (of_fibre s.settings f).enable (watch_of s.watches f).state (level_in (of_fibre s.settings f) (get_or samples f 0))
            c.position (subst (InFrame s) e k f h in_step) p;
        completes = λ samples c t e p. tt;
        asks = λ lengths later o e. k;
        fetches = λ buffer o. k;
        gives_back = λ o. k;
        resets = λ o. tt;
      }

  stays : (c : Call) → InFrame (step meaning s c).next_card (step meaning s c).next_card.capture
  stays = each_way meaning s Stays ways

pub steps_stay : StepsStay
unfolding fresh
steps_stay meaning room [] = tt
steps_stay meaning room (c ∷ h) = stays meaning (state_after meaning room h) (steps_stay meaning room h) c
