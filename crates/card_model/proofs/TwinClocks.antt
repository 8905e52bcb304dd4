-- A Clock of a card and one of its twin: alike answers, and cards that stay alike.
-- Assumes nothing.
use Rattle.std.proofs.Common.{◌≡◌, ℕ, ◌+◌, ◌<◌, Bool, true, false, eqb, List, get_or, Some, None, Option, refl, ap, ◌∙◌, subst, ap₂}
use mathlib.Core.Path.{subst⁻¹}
use Rattle.std.proofs.lemmas.Bool.{cond-true}
use Rattle.terms.specs.declared.refusal.Refusal.TheVariants.{SampleTooLarge}
use Rattle.rules.specs.Rules.{Meaning, ShiftLaw}
use Rattle.stores.specs.Store.{level_of}
use Rattle.settings.specs.declared.mode.Mode.{Mode}
use Rattle.settings.specs.declared.mode.Mode.TheVariants.{ZeroSuppression, ProcessedRaw, VirginRaw}
use Rattle.settings.specs.Settings.{of_fibre}
use Rattle.ticker.specs.Step.{judged}
use Rattle.synch.specs.Vote.{event}
use Rattle.strips.specs.Laws.{ShiftsRecords, RanksFit}
use Rattle.card_model.specs.Calls.{Call, load, clock, ask, fetch, give_back, level, reset, kept, plain, refused, Loss}
use Rattle.card_model.specs.State.{Watch, watch_of, Capture, CardState}
use Rattle.card_model.specs.Readout.{event_length, loss, with_event, oldest_bytes}
use Rattle.card_model.specs.Clock.{too_large, level_in, watches_after, pulses_with, standings, begun, sought, within_answer, within, readout_after, completed_answer, completing, records_of, in_capture, clocked, last_position}
use Rattle.card_model.specs.Step.{refusing, clock_asked, clock_step, step}
use Rattle.card_model.specs.Runs.{at_last, completed_by, columns_with, records_by}
use Rattle.card_model.specs.Twins.{Constants, SamplesAlike, TwinClock, TwinOfClock, TwinCall, BytesAlike, constants_in}
use Rattle.card_model.proofs.TwinEvents.{EventAlike, AsLong, as_long, same_lengths, ColumnsAlike, records_alike}
use Rattle.card_model.proofs.TwinSteps.{same_watches, same_pulses, CapturesAlike, differing, LeadsAlike, plain_alike, load_alike, ask_alike, fetch_alike, give_back_alike, level_alike, reset_alike}

-- the samples of a completed event are alike by its mode
samples_columns : (s t : CardState) (c : Constants) (xs ys : List ℕ) (mode : Mode) → SamplesAlike s t c xs ys (Some mode)
    → ColumnsAlike s.settings c (columns_with s.capture xs) (columns_with t.capture ys) mode
samples_columns s t c xs ys ZeroSuppression a = a
samples_columns s t c xs ys ProcessedRaw a = a
samples_columns s t c xs ys VirginRaw a = a

-- a capture begins in both or in none
begun_alike : (in_step : List Bool) (begins : Bool) → CapturesAlike (begun in_step begins) (begun in_step begins)
begun_alike in_step true = (refl, refl)
begun_alike in_step false = tt

module _ (shifts : ShiftsRecords) (meaning : Meaning) (law : ShiftLaw meaning) (k : Option Constants) (s : CardState) (capture : Option Capture) (lists : List (List ℕ))
    (captures : CapturesAlike s.capture capture)
    (fit : (f : ℕ) → RanksFit (of_fibre s.settings f))
    (same_loss : (e d : List (List ℕ)) → AsLong e d → loss (differing s capture lists).readout d ≡ loss s.readout e)
    (c : Constants) where
  abbrev t : CardState
  t = differing s capture lists

  sought_alike : (K : Type 0) (ws : List Watch) (in_step : List Bool) → LeadsAlike k K (sought s ws in_step) (sought t ws in_step)
  unfolding sought
  sought_alike K ws in_step =
      record {
        cards =
            record {
              settings = refl;
              watches = refl;
              captures = begun_alike in_step (event (standings s.settings ws in_step));
              slips = refl;
            };
        answers = refl;
        kept_alike = λ kept. absurd kept;
      }

  within_alike : (K : Type 0) (ws : List Watch) (a b : Capture) (xs ys : List ℕ) → CapturesAlike (Some a) (Some b)
      → LeadsAlike k K (within s ws a xs) (within t ws b ys)
  unfolding within
  within_alike K ws a b xs ys same =
      record {
        cards =
            record {
              settings = refl;
              watches = refl;
              captures = (ap (λ (n : ℕ). n + 1) same.0, same.1);
              slips = refl;
            };
        answers = ap₂ (λ (n : ℕ) (in_step : List Bool). plain (within_answer n (standings s.settings ws in_step))) same.0 same.1;
        kept_alike = λ kept. absurd kept;
      }

  -- a completed event, lost or kept in both
  kept_or_lost : (ws : List Watch) (j : Option Constants) (e d : List (List ℕ)) → EventAlike j e d → (l : Option Loss)
      → LeadsAlike k (EventAlike j e d)
      (record {
        next_card = record { settings = s.settings; watches = ws; capture = None; readout = readout_after s.readout e l };
        answer = completed_answer e l;
      })
      (record {
        next_card = record { settings = s.settings; watches = ws; capture = None; readout = readout_after t.readout d l };
        answer = completed_answer d l;
      })
  unfolding with_event
  kept_or_lost ws j e d a (Some l) =
      record {
        cards = record { settings = refl; watches = refl; captures = tt; slips = refl };
        answers = refl;
        kept_alike = λ _. a;
      }
  kept_or_lost ws j e d a None =
      record {
        cards = record { settings = refl; watches = refl; captures = tt; slips = refl };
        answers = ap (λ (lengths : List ℕ). kept (event_length lengths)) (same_lengths e d (as_long j e d a));
        kept_alike = λ _. a;
      }

  completing_alike : (ws : List Watch) (j : Option Constants) (e d : List (List ℕ)) → EventAlike j e d
      → LeadsAlike k (EventAlike j e d) (completing s ws e) (completing t ws d)
  unfolding completing
  completing_alike ws j e d a =
      subst⁻¹
      (λ (l : Option Loss).
      LeadsAlike k (EventAlike j e d)
      (record {
        next_card = record { settings = s.settings; watches = ws; capture = None; readout = readout_after s.readout e (loss s.readout e) };
        answer = completed_answer e (loss s.readout e);
      })
      (record {
        next_card = record { settings = s.settings; watches = ws; capture = None; readout = readout_after t.readout d l };
        answer = completed_answer d l;
      }))
      (same_loss e d (as_long j e d a)) (kept_or_lost ws j e d a (loss s.readout e))

  -- the event that a Clock completes, out of two captures
  abbrev CompletedAlike : Option Capture → Option Capture → List ℕ → List ℕ → Type 0
  CompletedAlike o q xs ys =
      EventAlike (constants_in s.settings.mode c) (records_of meaning s.settings (columns_with o xs)) (records_of meaning s.settings (columns_with q ys))

  in_capture_alike : (ws : List Watch) (a b : Capture) (xs ys : List ℕ) → CapturesAlike (Some a) (Some b) → (last : Bool)
      → (last ≡ true → ColumnsAlike s.settings c (columns_with (Some a) xs) (columns_with (Some b) ys) s.settings.mode)
      → LeadsAlike k (CompletedAlike (Some a) (Some b) xs ys) (in_capture last meaning s ws a xs) (in_capture last meaning t ws b ys)
  in_capture_alike ws a b xs ys same true alike =
      completing_alike ws (constants_in s.settings.mode c) (records_of meaning s.settings (columns_with (Some a) xs))
      (records_of meaning s.settings (columns_with (Some b) ys))
      (records_alike shifts meaning law s.settings fit c (columns_with (Some a) xs) (columns_with (Some b) ys) (alike refl))
  in_capture_alike ws a b xs ys same false alike = within_alike (CompletedAlike (Some a) (Some b) xs ys) ws a b xs ys same

  module _ (xs ys : List ℕ)
      (levels : (f : ℕ) → f < 12 → judged (of_fibre s.settings f).enable (watch_of s.watches f).state ≡ true
      → level_in (of_fibre s.settings f) (get_or ys f 0) ≡ level_in (of_fibre s.settings f) (get_or xs f 0)) where
    clocked_alike : (o q : Option Capture) → CapturesAlike o q
        → (at_last o ≡ true → ColumnsAlike s.settings c (columns_with o xs) (columns_with q ys) s.settings.mode)
        → LeadsAlike k (CompletedAlike o q xs ys) (clocked meaning s xs o) (clocked meaning t ys q)
    clocked_alike None None a alike =
        let ws = watches_after s.settings s.watches xs in
        let in_step = pulses_with s.settings s.watches xs in
        subst⁻¹
        (λ (v : List Watch).
        LeadsAlike k (CompletedAlike None None xs ys) (sought s ws in_step) (sought t v (pulses_with s.settings s.watches ys)))
        (same_watches s.settings s.watches xs ys levels)
        (subst⁻¹ (λ (b : List Bool). LeadsAlike k (CompletedAlike None None xs ys) (sought s ws in_step) (sought t ws b))
        (same_pulses s.settings s.watches xs ys levels) (sought_alike (CompletedAlike None None xs ys) ws in_step))
    clocked_alike None (Some b) a alike = absurd a
    clocked_alike (Some b) None a alike = absurd a
    clocked_alike (Some a) (Some b) same alike =
        let ws = watches_after s.settings s.watches xs in
        let last = eqb a.position last_position in
        subst⁻¹
        (λ (v : List Watch).
        LeadsAlike k (CompletedAlike (Some a) (Some b) xs ys) (in_capture last meaning s ws a xs)
        (in_capture (eqb b.position last_position) meaning t v b ys))
        (same_watches s.settings s.watches xs ys levels)
        (subst⁻¹
        (λ (n : ℕ).
        LeadsAlike k (CompletedAlike (Some a) (Some b) xs ys) (in_capture last meaning s ws a xs)
        (in_capture (eqb n last_position) meaning t ws b ys))
        same.0 (in_capture_alike ws a b xs ys same last alike))

  clock_asked_alike : (xs ys : List ℕ) (o : Option ℕ) → too_large xs ≡ o → TwinClock o s t c xs ys
      → LeadsAlike k (CompletedAlike s.capture capture xs ys) (clock_asked o meaning s xs) (clock_asked (too_large ys) meaning t ys)
  clock_asked_alike xs ys (Some f) e same =
      let K = CompletedAlike s.capture capture xs ys in
      subst⁻¹ (λ (o : Option ℕ). LeadsAlike k K (refusing s (SampleTooLarge f)) (clock_asked o meaning t ys)) (ap too_large same ∙ e)
      (plain_alike k K s t (refused (SampleTooLarge f)) (record { settings = refl; watches = refl; captures = captures; slips = refl }))
  clock_asked_alike xs ys None e twin =
      let K = CompletedAlike s.capture capture xs ys in
      subst⁻¹ (λ (o : Option ℕ). LeadsAlike k K (clocked meaning s xs s.capture) (clock_asked o meaning t ys)) twin.ten_bits
      (clocked_alike xs ys twin.same_levels s.capture capture captures
      (λ last.
      samples_columns s t c xs ys s.settings.mode
      (subst (SamplesAlike s t c xs ys)
      (ap (λ (o : Option ℕ). completed_by o s) e ∙ cond-true (at_last s.capture) (Some s.settings.mode) None last)
      twin.events_alike)))

  pub clock_alike : (xs ys : List ℕ) → TwinClock (too_large xs) s t c xs ys
      → LeadsAlike k (CompletedAlike s.capture capture xs ys) (clock_step meaning s xs) (clock_step meaning t ys)
  unfolding clock_step
  clock_alike xs ys twin = clock_asked_alike xs ys (too_large xs) refl twin

  -- ---- any call

  -- the event that a call completes
  abbrev KeptAlike : Call → Call → Type 0
  KeptAlike x y = EventAlike (constants_in s.settings.mode c) (records_by meaning s x) (records_by meaning t y)

  module _ (levels : (f : ℕ) → f < 12 → level_of lists f ≡ level_of s.readout.lists f)
      (oldest : BytesAlike k (oldest_bytes s.readout) (oldest_bytes (differing s capture lists).readout)) where
    of_clock_alike : (xs : List ℕ) (y : Call) → TwinOfClock s t c xs y → LeadsAlike k (KeptAlike (clock xs) y) (step meaning s (clock xs)) (step meaning t y)
    of_clock_alike xs (load word) twin = absurd twin
    of_clock_alike xs (clock ys) twin = clock_alike xs ys twin
    of_clock_alike xs ask twin = absurd twin
    of_clock_alike xs (fetch buffer) twin = absurd twin
    of_clock_alike xs give_back twin = absurd twin
    of_clock_alike xs (level f) twin = absurd twin
    of_clock_alike xs reset twin = absurd twin

    -- a call with equal arguments
    equal_alike : (x y : Call) → y ≡ x → LeadsAlike k (KeptAlike x x) (step meaning s x) (step meaning t x)
        → LeadsAlike k (KeptAlike x y) (step meaning s x) (step meaning t y)
    equal_alike x y e a = subst⁻¹ (λ (z : Call). LeadsAlike k (KeptAlike x z) (step meaning s x) (step meaning t z)) e a

    pub call_alike : (x y : Call) → TwinCall s t c x y → LeadsAlike k (KeptAlike x y) (step meaning s x) (step meaning t y)
    call_alike (load word) y twin =
        equal_alike (load word) y twin (load_alike k (KeptAlike (load word) (load word)) s capture lists captures levels oldest word)
    call_alike (clock xs) y twin = of_clock_alike xs y twin
    call_alike ask y twin = equal_alike ask y twin (ask_alike k (KeptAlike ask ask) s capture lists captures levels oldest)
    call_alike (fetch buffer) y twin =
        equal_alike (fetch buffer) y twin (fetch_alike k (KeptAlike (fetch buffer) (fetch buffer)) s capture lists captures levels oldest buffer)
    call_alike give_back y twin =
        equal_alike give_back y twin (give_back_alike k (KeptAlike give_back give_back) s capture lists captures levels oldest)
    call_alike (level f) y twin = equal_alike (level f) y twin (level_alike k (KeptAlike (level f) (level f)) s capture lists captures levels oldest f)
    call_alike reset y twin = equal_alike reset y twin (reset_alike k (KeptAlike reset reset) s capture lists captures levels oldest)
