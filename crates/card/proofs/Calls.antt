-- The calls about the readout, each as a step of the card.
-- Assumes nothing.
use Rattle.std.proofs.Common.{◌≡◌, ℕ, Bool, true, false, ltb, List, [], ◌∷◌, Some, None, Ok, Err, Option, Result, sym, refl, ap, ◌∙◌, subst, ap₂, ⊎_elim, arith}
use Rattle.std.specs.Option.{ok_or}
use Rattle.std.proofs.lemmas.Bool.{cond-true, cond-false, cases_Bool}
use Rattle.terms.specs.declared.refusal.Refusal.{Refusal}
use Rattle.terms.specs.declared.refusal.Refusal.TheVariants.{NoSuchFibre, SlipOut, NothingWaiting, NoSlipOut}
use Rattle.rules.specs.Rules.{Meaning}
use Rattle.stores.specs.Store.{level_of, empty_lists, fibre_question}
use Rattle.stores.proofs.Lists.{impossible}
use Rattle.card_model.specs.Calls.{Call, ask, give_back, level, reset, was_reset, plain, refused, slip, given_back, level_is}
use Rattle.card_model.specs.State.{CardState}
use Rattle.card_model.specs.Clock.{Outcome}
use Rattle.card_model.specs.Step.{step, unchanged, refusing, slip_given, ask_waiting, ask_step, giving_back, give_back_step, level_step, resetting, reset_step}
use Rattle.card_model.specs.Readout.{event_length}
use Rattle.card.specs.declared.inner.Core.{Core}
use Rattle.card.specs.Abstraction.{state_of}
use Rattle.card.specs.Queue.{first_in}
use Rattle.card.specs.Steps.{Stepped, said_level}

-- a call by what its step is
pub stepped : (meaning : Meaning) (s : CardState) (c : Call) (o : Outcome) → step meaning s c ≡ o → Stepped meaning s c o.next_card o.answer
stepped meaning s c o e = record { state = sym (ap (λ (x : Outcome). x.next_card) e); says = sym (ap (λ (x : Outcome). x.answer) e) }

-- the first of a list tells whether there is one
none_first : {X : Type 0} (xs : List X) → None ≡ first_in xs → xs ≡ []
none_first [] e = refl
none_first (x ∷ xs) e = let z : ◌≡◌ {A = ℕ} 0 1 = cc in absurd (omega arith)

some_first : {X : Type 0} (xs : List X) (x : X) → Some x ≡ first_in xs → (later : List X) × (xs ≡ x ∷ later)
some_first [] x e = let z : ◌≡◌ {A = ℕ} 0 1 = cc in absurd (omega arith)
some_first (y ∷ ys) x e = (ys, cc)

-- a core with a slip out or not
abbrev pub with_slip_out : Core → Bool → Core
with_slip_out core out =
    record {
      settings = core.settings;
      tickers = core.tickers;
      capture = core.capture;
      rows = core.rows;
      waiting = core.waiting;
      slip_out = out;
    }

module _ (meaning : Meaning) (core : Core) (lists : List (List ℕ)) (room : ℕ) where
  pub gave_back : core.slip_out ≡ true
      → Stepped meaning (state_of core lists room) give_back (state_of (with_slip_out core false) lists room) (plain given_back)
  unfolding state_of give_back_step
  gave_back out =
      stepped meaning (state_of core lists room) give_back (giving_back (state_of core lists room))
      (cond-true core.slip_out (giving_back (state_of core lists room)) (refusing (state_of core lists room) NoSlipOut) out)

  pub gave_back_refused : core.slip_out ≡ false
      → Stepped meaning (state_of core lists room) give_back (state_of core lists room) (plain (refused NoSlipOut))
  unfolding state_of give_back_step
  gave_back_refused out =
      stepped meaning (state_of core lists room) give_back (refusing (state_of core lists room) NoSlipOut)
      (cond-false core.slip_out (giving_back (state_of core lists room)) (refusing (state_of core lists room) NoSlipOut) out)

  pub asked_out : core.slip_out ≡ true
      → Stepped meaning (state_of core lists room) ask (state_of core lists room) (plain (refused SlipOut))
  unfolding state_of ask_step
  asked_out out =
      stepped meaning (state_of core lists room) ask (refusing (state_of core lists room) SlipOut)
      (cond-true core.slip_out (refusing (state_of core lists room) SlipOut) (ask_waiting core.waiting (state_of core lists room)) out)

  asks : core.slip_out ≡ false → ask_step (state_of core lists room) ≡ ask_waiting core.waiting (state_of core lists room)
  unfolding state_of ask_step
  asks out = cond-false core.slip_out (refusing (state_of core lists room) SlipOut) (ask_waiting core.waiting (state_of core lists room)) out

  asked_none : core.slip_out ≡ false → None ≡ first_in core.waiting
      → Stepped meaning (state_of core lists room) ask (state_of core lists room) (plain (refused NothingWaiting))
  asked_none out e =
      stepped meaning (state_of core lists room) ask (refusing (state_of core lists room) NothingWaiting)
      (asks out ∙ ap (λ (q : List (List ℕ)). ask_waiting q (state_of core lists room)) (none_first core.waiting e))

  asked_some : (lengths : List ℕ) (n : ℕ) → core.slip_out ≡ false → Some lengths ≡ first_in core.waiting → n ≡ event_length lengths
      → Stepped meaning (state_of core lists room) ask (state_of (with_slip_out core true) lists room) (plain (slip n))
  unfolding state_of
  asked_some lengths n out e long =
      subst (λ (m : ℕ). Stepped meaning (state_of core lists room) ask (state_of (with_slip_out core true) lists room) (plain (slip m))) (sym long)
      (stepped meaning (state_of core lists room) ask (slip_given (state_of core lists room) lengths)
      (asks out ∙ ap (λ (q : List (List ℕ)). ask_waiting q (state_of core lists room)) (some_first core.waiting lengths e).1))

  -- the same, by the question whether an event waits
  pub asked_refused : (o : Option (List ℕ)) (r : Refusal) → core.slip_out ≡ false → o ≡ first_in core.waiting → Err r ≡ ok_or o NothingWaiting
      → Stepped meaning (state_of core lists room) ask (state_of core lists room) (plain (refused r))
  asked_refused None r out is e =
      let same : NothingWaiting ≡ r = cc in
      subst (λ (x : Refusal). Stepped meaning (state_of core lists room) ask (state_of core lists room) (plain (refused x))) same (asked_none out is)
  asked_refused (Some x) r out is e = impossible (cc)

  pub asked_given : (o : Option (List ℕ)) (lengths : List ℕ) (n : ℕ) → core.slip_out ≡ false → o ≡ first_in core.waiting
      → Ok lengths ≡ ok_or o NothingWaiting → n ≡ event_length lengths
      → Stepped meaning (state_of core lists room) ask (state_of (with_slip_out core true) lists room) (plain (slip n))
  asked_given None lengths n out is e long = impossible (cc)
  asked_given (Some x) lengths n out is e long =
      let same : lengths ≡ x = cc in
      asked_some lengths n out (ap Some same ∙ is) long

  pub level_told : (f : ℕ) (r : Result ℕ Refusal) → r ≡ fibre_question f (Ok (level_of lists f))
      → Stepped meaning (state_of core lists room) (level f) (state_of core lists room) (said_level r)
  unfolding state_of level_step
  level_told f r e =
      ⊎_elim
      (λ h.
      subst (λ (x : Result ℕ Refusal). Stepped meaning (state_of core lists room) (level f) (state_of core lists room) (said_level x))
      (sym (e ∙ cond-true (ltb f 12) (Ok (level_of lists f)) (Err NoSuchFibre) h))
      (stepped meaning (state_of core lists room) (level f) (unchanged (state_of core lists room) (level_is (level_of lists f)))
      (cond-true (ltb f 12) (unchanged (state_of core lists room) (level_is (level_of lists f))) (refusing (state_of core lists room) NoSuchFibre) h)))
      (λ h.
      subst (λ (x : Result ℕ Refusal). Stepped meaning (state_of core lists room) (level f) (state_of core lists room) (said_level x))
      (sym (e ∙ cond-false (ltb f 12) (Ok (level_of lists f)) (Err NoSuchFibre) h))
      (stepped meaning (state_of core lists room) (level f) (refusing (state_of core lists room) NoSuchFibre)
      (cond-false (ltb f 12) (unchanged (state_of core lists room) (level_is (level_of lists f))) (refusing (state_of core lists room) NoSuchFibre) h)))
      (cases_Bool (ltb f 12))

  pub reset_out : core.slip_out ≡ true
      → Stepped meaning (state_of core lists room) reset (state_of core lists room) (plain (refused SlipOut))
  unfolding state_of reset_step
  reset_out out =
      stepped meaning (state_of core lists room) reset (refusing (state_of core lists room) SlipOut)
      (cond-true core.slip_out (refusing (state_of core lists room) SlipOut) (resetting (state_of core lists room)) out)

  pub was_reset_to : (after : Core) (lists' : List (List ℕ)) (room' : ℕ) → core.slip_out ≡ false
      → ((ls : List (List ℕ)) (r : ℕ) → state_of after empty_lists r ≡ (resetting (state_of core ls r)).next_card)
      → lists' ≡ empty_lists → room' ≡ room
      → Stepped meaning (state_of core lists room) reset (state_of after lists' room') was_reset
  unfolding state_of reset_step
  was_reset_to after lists' room' out e l r =
      subst (λ (x : CardState). Stepped meaning (state_of core lists room) reset x was_reset)
      (sym (ap₂ (λ (ls : List (List ℕ)) (n : ℕ). state_of after ls n) l r ∙ e lists room))
      (stepped meaning (state_of core lists room) reset (resetting (state_of core lists room))
      (cond-false core.slip_out (refusing (state_of core lists room) SlipOut) (resetting (state_of core lists room)) out))
