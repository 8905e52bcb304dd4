-- After every list of calls the readout holds the events that the answers say wait.
-- Assumes nothing.
use Rattle.std.proofs.Common.{◌≡◌, ℕ, ◌<◌, true, false, List, [], ◌∷◌, map, length, Some, None, Option, sym, refl, subst, arith}
use mathlib.Core.Path.{subst⁻¹}
use Rattle.rules.specs.Rules.{Meaning}
use Rattle.card_model.specs.Fibres.{in_fibre_order}
use Rattle.card_model.specs.Calls.{Call, Answer, kept, fetched, was_reset, plain, Loss}
use Rattle.card_model.specs.State.{Watch, Capture, CardState, empty, fresh}
use Rattle.card_model.specs.Readout.{record_of, lengths_of, loss}
use Rattle.card_model.specs.Clock.{Outcome, sought, within, records_of, completing, readout_after, completed_answer}
use Rattle.card_model.specs.Step.{step}
use Rattle.card_model.specs.Runs.{state_after, answer_after, moved, columns_with, records_by, records_waiting}
use Rattle.card_model.specs.Waiting.{Because}
use Rattle.card_model.proofs.Readout.{Holds, size, oldest_of, gives_oldest, fetched_holds, kept_holds, slip_holds, loss_because, empty_holds}
use Rattle.card_model.proofs.Ways.{Ways, each_way, watches_then}

-- what an answer says of the events: one kept has its length, a Fetch gives the oldest
abbrev pub Tells : List (List ℕ) → List (List (List ℕ)) → Answer → Type 0
Tells e es (kept n) = n ≡ size e
Tells e es (fetched bytes) = bytes ≡ in_fibre_order (record_of (oldest_of es))
Tells e es was_reset = Unit {0}
Tells e es (plain p) = Unit {0}

-- a call leads to a readout that holds what the answer says
pub record Leads (room : ℕ) (e : List (List ℕ)) (es : List (List (List ℕ))) (o : Outcome) : Type 0 where
  pub holds : Holds room (moved e o.answer es) o.next_card.readout
  pub tells : Tells e es o.answer

module _ (meaning : Meaning) (room : ℕ) (es : List (List (List ℕ))) (s : CardState) (h : Holds room es s.readout) where
  outcome_leads : (e : List (List ℕ)) (l : Option Loss) → Because room es e l
      → Holds room (moved e (completed_answer e l) es) (readout_after s.readout e l) × Tells e es (completed_answer e l)
  outcome_leads e (Some l) because = (h, tt)
  outcome_leads e None because = (kept_holds room es s.readout h e because, refl)

  completing_leads : (ws : List Watch) (e : List (List ℕ)) → Leads room e es (completing s ws e)
  unfolding completing
  completing_leads ws e = let o = outcome_leads e (loss s.readout e) (loss_because room es s.readout h e) in record { holds = o.0; tells = o.1 }

  slip_leads : (xs : List (List (List ℕ))) (lengths : List ℕ) (later : List (List ℕ)) → s.readout.events ≡ lengths ∷ later
      → s.readout.events ≡ map lengths_of xs → 0 < length xs
  slip_leads [] lengths later e v = let z : ◌≡◌ {A = ℕ} 0 1 = cc in absurd (omega arith)
  slip_leads (x ∷ xs) lengths later e v = omega arith

  abbrev To : Call → Outcome → Type 0
  To c o = Leads room (records_by meaning s c) es o

  ways : Ways meaning s To
  unfolding sought within
  ways =
      record {
        same = λ c p none. record { holds = h; tells = tt };
        takes = λ word setting o e. record { holds = h; tells = tt };
        seeks = λ samples t e. record { holds = h; tells = tt };
        goes_on = λ samples c t e p. record { holds = h; tells = tt };
        completes =
            λ samples c t e p.
            let ws = watches_then s samples in
            let records = records_of meaning s.settings (columns_with (Some c) samples) in
            subst⁻¹ (λ (o : Option Capture). Leads room (records_of meaning s.settings (columns_with o samples)) es (completing s ws records)) e
            (completing_leads ws records);
        asks =
            λ lengths later o e.
            record { holds = slip_holds room es s.readout h true (λ _. slip_leads es lengths later e h.lengths); tells = tt };
        fetches = λ buffer o. record { holds = fetched_holds room es s.readout h; tells = gives_oldest room es s.readout h };
        gives_back =
            λ o.
            record {
              holds = slip_holds room es s.readout h false (λ w. let z : ◌≡◌ {A = ℕ} 0 1 = cc in absurd (omega arith));
              tells = tt;
            };
        resets =
            λ o. record { holds = subst (λ (n : ℕ). Holds room [] (empty n)) (sym h.capacity) (empty_holds room); tells = tt };
      }

  pub step_leads : (c : Call) → Leads room (records_by meaning s c) es (step meaning s c)
  step_leads = each_way meaning s To ways

pub run_holds : (meaning : Meaning) (room : ℕ) (calls : List Call)
    → Holds room (records_waiting meaning room calls) (state_after meaning room calls).readout
unfolding fresh
run_holds meaning room [] = empty_holds room
run_holds meaning room (c ∷ h) =
    (step_leads meaning room (records_waiting meaning room h) (state_after meaning room h) (run_holds meaning room h) c).holds

-- and every answer tells of them
pub run_tells : (meaning : Meaning) (room : ℕ) (h : List Call) (c : Call)
    → Tells (records_by meaning (state_after meaning room h) c) (records_waiting meaning room h) (answer_after meaning room h c)
run_tells meaning room h c =
    (step_leads meaning room (records_waiting meaning room h) (state_after meaning room h) (run_holds meaning room h) c).tells
