-- Twins answer alike: over every list of calls of a card and of a shifted twin.
-- Assumes nothing.
use Rattle.std.proofs.Common.{ℕ, List, [], ◌∷◌, get_or, None, Option, refl}
use mathlib.Core.Path.{subst⁻¹}
use Rattle.rules.specs.Rules.{Meaning, ShiftLaw}
use Rattle.settings.specs.Settings.{of_fibre}
use Rattle.strips.specs.Laws.{ShiftsRecords, RanksFit}
use Rattle.card_model.specs.Calls.{Call}
use Rattle.card_model.specs.State.{CardState, fresh}
use Rattle.card_model.specs.Step.{step}
use Rattle.card_model.specs.Runs.{state_after, answer_after, suppressed_in, records_by, records_waiting}
use Rattle.card_model.specs.Laws.{TwinLaw}
use Rattle.card_model.specs.Twins.{Constants, TwinCall, Twins, constants_in, constants_waiting, AnswersAlike}
use Rattle.card_model.proofs.Readout.{Holds}
use Rattle.card_model.proofs.Sound.{run_holds}
use Rattle.card_model.proofs.Ranks.{ranks_fit}
use Rattle.card_model.proofs.TwinEvents.{EventAlike, EventsAlike, moved_alike, same_capacity, same_queue, same_level, fetched_alike, same_loss}
use Rattle.card_model.proofs.TwinSteps.{CardsAlike, differing, is_differing, LeadsAlike}
use Rattle.card_model.proofs.TwinClocks.{call_alike}

module _ (shifts : ShiftsRecords) (meaning : Meaning) (law : ShiftLaw meaning) (room : ℕ) where
  -- what a call of each leads to, of alike cards in which alike events wait
  module _ (ks : List (Option Constants)) (es ds : List (List (List ℕ))) (waiting : EventsAlike ks es ds) (s : CardState)
      (fit : (f : ℕ) → RanksFit (of_fibre s.settings f)) (holds : Holds room es s.readout) (c : Constants) (x y : Call) where
    -- the same of the twin's card
    abbrev From : CardState → Type 0
    From u =
        Holds room ds u.readout → TwinCall s u c x y
        → LeadsAlike (get_or ks 0 None) (EventAlike (constants_in s.settings.mode c) (records_by meaning s x) (records_by meaning u y))
        (step meaning s x) (step meaning u y)

    pub step_alike : (t : CardState) → CardsAlike s t → From t
    step_alike t alike others twin =
        subst⁻¹ From
        (is_differing s t alike (same_capacity room ks es ds waiting s.readout t.readout holds others)
        (same_queue room ks es ds waiting s.readout t.readout holds others))
        (λ h w.
        let r = s.readout in
        let q = (differing s t.capture t.readout.lists).readout in
        call_alike shifts meaning law (get_or ks 0 None) s t.capture t.readout.lists alike.captures fit
        (same_loss room ks es ds waiting r q holds h) c (same_level room ks es ds waiting r q holds h)
        (fetched_alike room ks es ds waiting r q holds h) x y w)
        others twin

  module _ (cs : ℕ → Constants) where
    -- after a list of calls of each
    record RunsAlike (xs ys : List Call) : Type 0 where
      cards : CardsAlike (state_after meaning room xs) (state_after meaning room ys)
      events : EventsAlike (constants_waiting meaning room cs xs) (records_waiting meaning room xs) (records_waiting meaning room ys)

    next_alike : (xs ys : List Call) → RunsAlike xs ys → (x y : Call)
        → TwinCall (state_after meaning room xs) (state_after meaning room ys) (cs (suppressed_in meaning room xs)) x y
        → LeadsAlike (get_or (constants_waiting meaning room cs xs) 0 None)
        (EventAlike (constants_in (state_after meaning room xs).settings.mode (cs (suppressed_in meaning room xs)))
        (records_by meaning (state_after meaning room xs) x) (records_by meaning (state_after meaning room ys) y))
        (step meaning (state_after meaning room xs) x) (step meaning (state_after meaning room ys) y)
    next_alike xs ys a x y twin =
        step_alike (constants_waiting meaning room cs xs) (records_waiting meaning room xs) (records_waiting meaning room ys) a.events
        (state_after meaning room xs) (ranks_fit meaning room xs) (run_holds meaning room xs) (cs (suppressed_in meaning room xs)) x y
        (state_after meaning room ys) a.cards (run_holds meaning room ys) twin

    runs_alike : (xs ys : List Call) → Twins meaning room cs xs ys → RunsAlike xs ys
    unfolding fresh
    runs_alike [] [] twins =
        record { cards = record { settings = refl; watches = refl; captures = tt; slips = refl }; events = tt }
    runs_alike [] (y ∷ ys) twins = absurd twins
    runs_alike (x ∷ xs) [] twins = absurd twins
    runs_alike (x ∷ xs) (y ∷ ys) twins =
        let before = runs_alike xs ys twins.0 in
        let now = next_alike xs ys before x y twins.1 in
        record {
          cards = now.cards;
          events =
              moved_alike (get_or (constants_waiting meaning room cs xs) 0 None)
              (constants_in (state_after meaning room xs).settings.mode (cs (suppressed_in meaning room xs)))
              (records_by meaning (state_after meaning room xs) x) (records_by meaning (state_after meaning room ys) y)
              (answer_after meaning room xs x) (answer_after meaning room ys y)
              (constants_waiting meaning room cs xs) (records_waiting meaning room xs) (records_waiting meaning room ys)
              now.answers now.kept_alike before.events;
        }

    answers_alike : (xs ys : List Call) → Twins meaning room cs xs ys → AnswersAlike meaning room cs xs ys
    answers_alike [] [] twins = tt
    answers_alike [] (y ∷ ys) twins = absurd twins
    answers_alike (x ∷ xs) [] twins = absurd twins
    answers_alike (x ∷ xs) (y ∷ ys) twins = (
      answers_alike xs ys twins.0,
      (next_alike xs ys (runs_alike xs ys twins.0) x y twins.1).answers,
    )

-- where the rule keeps the shift law, every twin answers every call like the card
pub twins_answer_alike : ShiftsRecords → TwinLaw
twins_answer_alike shifts meaning room law calls cs others twins = answers_alike shifts meaning law room cs calls others twins
