-- No early loss: a few zero-suppressed events leave room for one more.
-- Assumes nothing.
use Rattle.std.proofs.Common.{◌≡◌, ℕ, ◌-◌, ◌*◌, ◌/◌, ◌<◌, ◌≤◌, false, leb, List, [], ◌∷◌, ◌++◌, length, drop, Some, None, Ok, Option, refl, ap, ◌∙◌, subst, arith}
use mathlib.Core.Path.{subst⁻¹}
use Rattle.std.specs.List.{AllByRecursion}
use Rattle.std.proofs.lemmas.List.{length-map, length-append}
use Rattle.std.proofs.lemmas.Bool.{cond-false, le-ltb, lt-leb}
use Rattle.rules.specs.Rules.{Meaning}
use Rattle.stores.specs.Store.{level_of, largest}
use Rattle.settings.specs.declared.card.CardSettings.{CardSettings}
use Rattle.settings.specs.declared.mode.Mode.{Mode}
use Rattle.settings.specs.declared.mode.Mode.TheVariants.{ZeroSuppression}
use Rattle.settings.specs.Settings.{of_fibre}
use Rattle.layout.specs.Event.{longest, shortest}
use Rattle.layout.specs.Lengths.{lengths_in_range}
use Rattle.strips.specs.Fibre.{fibre_record, kind_in, content_in}
use Rattle.strips.specs.Laws.{Bounded, RecordsOfTheLayout}
use Rattle.card_model.specs.Fibres.{lowest}
use Rattle.card_model.specs.Calls.{Call, load, clock, ask, fetch, give_back, reset, Answer, kept, fetched, was_reset, plain, Loss}
use Rattle.card_model.specs.State.{Watch, Capture, Readout, CardState}
use Rattle.card_model.specs.Readout.{record_of, lengths_of, most_events, exceeds, lacking, loss}
use Rattle.card_model.specs.Clock.{Outcome, pulses_with, sought, within, row, records_of, completed_answer, completing, all_columns}
use Rattle.card_model.specs.Step.{unchanged, loaded, slip_given, fetching, giving_back, resetting, step}
use Rattle.card_model.specs.Runs.{state_after, answer_after, completed, moved, modes_waiting, columns_with, columns_by, records_by, records_waiting}
use Rattle.card_model.specs.Laws.{IsKept, NoEarlyLoss}
use Rattle.card_model.proofs.Fibres.{get_or_for, lowest_none}
use Rattle.card_model.specs.Waiting.{stacked}
use Rattle.card_model.proofs.Readout.{Holds}
use Rattle.card_model.proofs.Sound.{run_holds}
use Rattle.card_model.proofs.Ways.{watches_then, none_completed, not_last, is_last, Ways, each_way}
use Rattle.card_model.proofs.Captures.{Complete, row_length, row_small, run_captured, Completion, not_completed, completion}

-- ---- the records of a completed event

module _ (formed : RecordsOfTheLayout) (meaning : Meaning) (bounded : Bounded meaning) where
  -- each has the length of its kind
  pub lengths_of_kind : (settings : CardSettings) (columns : List (List ℕ)) → Complete columns → (f : ℕ) → f < 12
      → (shortest (kind_in settings.mode) ≤ length (record_of (records_of meaning settings columns) f))
      × (length (record_of (records_of meaning settings columns) f) ≤ longest (kind_in settings.mode))
  unfolding records_of fibre_record
  lengths_of_kind settings columns k f below =
      subst⁻¹
      (λ (r : List ℕ). (shortest (kind_in settings.mode) ≤ length r) × (length r ≤ longest (kind_in settings.mode)))
      (get_or_for (λ g. fibre_record meaning g (of_fibre settings g) settings.mode (row columns g)) f [] below)
      (lengths_in_range (kind_in settings.mode) (content_in meaning f (of_fibre settings f) settings.mode (row columns f))
      (formed meaning f (of_fibre settings f) settings.mode (row columns f) bounded below (row_length columns f k) (row_small columns f below k)))

-- an event whose records are at most 267 bytes long
abbrev pub Short : List (List ℕ) → Type 0
Short e = (f : ℕ) → f < 12 → length (record_of e f) ≤ 267

-- ---- an event is kept by the last Clock of a capture, if it is not lost

-- an answer that an event was kept comes with a completed event, and a completed event that is not lost is kept
pub record KeptIf (meaning : Meaning) (s : CardState) (c : Call) (o : Outcome) : Type 0 where
  pub kept_completes : IsKept o.answer → completed s c ≡ Some s.settings.mode
  pub unless_lost : (n : Mode) → completed s c ≡ Some n → loss s.readout (records_by meaning s c) ≡ None → IsKept o.answer

module _ (meaning : Meaning) (s : CardState) where
  -- a call that completes no event, and does not answer that one was kept
  none_kept : (c : Call) (o : Outcome) → completed s c ≡ None → (IsKept o.answer → ⊥) → KeptIf meaning s c o
  none_kept c o none not =
      record { kept_completes = λ k. absurd (not k); unless_lost = λ n e _. not_completed s c n none e }

  completing_keeps : (ws : List Watch) (e : List (List ℕ)) → loss s.readout e ≡ None → IsKept (completing s ws e).answer
  unfolding completing
  completing_keeps ws e none = subst⁻¹ (λ (l : Option Loss). IsKept (completed_answer e l)) none tt

  kept_ways : Ways meaning s (KeptIf meaning s)
  unfolding sought within
  kept_ways =
      record {
        same = λ c p none. none_kept c (unchanged s p) none (λ k. k);
        takes = λ word setting o e. none_kept (load word) (loaded s (Ok setting)) refl (λ k. k);
        seeks =
            λ samples t e.
            none_kept (clock samples) (sought s (watches_then s samples) (pulses_with s.settings s.watches samples)) (none_completed s samples t e) (λ k. k);
        goes_on = λ samples c t e p. none_kept (clock samples) (within s (watches_then s samples) c samples) (not_last s samples c t e p) (λ k. k);
        completes =
            λ samples c t e p.
            record {
              kept_completes = λ _. is_last s samples c t e p;
              unless_lost =
                  λ n w none.
                  completing_keeps (watches_then s samples) (records_of meaning s.settings (all_columns c samples))
                  (subst (λ (o : Option Capture). loss s.readout (records_of meaning s.settings (columns_with o samples)) ≡ None) e none);
            };
        asks = λ lengths later o e. none_kept ask (slip_given s lengths) refl (λ k. k);
        fetches = λ buffer o. none_kept (fetch buffer) (fetching s) refl (λ k. k);
        gives_back = λ o. none_kept give_back (giving_back s) refl (λ k. k);
        resets = λ o. none_kept reset (resetting s) refl (λ k. k);
      }

  pub kept_if : (c : Call) → KeptIf meaning s c (step meaning s c)
  kept_if = each_way meaning s (KeptIf meaning s) kept_ways

-- ---- the events that wait: those completed in zero suppression are short

-- an event by its mode
abbrev ShortIn : Mode → List (List ℕ) → Type 0
ShortIn mode e = mode ≡ ZeroSuppression → Short e

abbrev ShortEach : List Mode → List (List (List ℕ)) → Type 0
ShortEach [] [] = Unit {0}
ShortEach [] (e ∷ es) = ⊥
ShortEach (m ∷ ms) [] = ⊥
ShortEach (m ∷ ms) (e ∷ es) = ShortIn m e × ShortEach ms es

short_push : (m : Mode) (e : List (List ℕ)) (ms : List Mode) (es : List (List (List ℕ))) → ShortIn m e → ShortEach ms es → ShortEach (ms ++ m ∷ []) (es ++ e ∷ [])
short_push m e [] [] h k = (h, tt)
short_push m e [] (x ∷ es) h k = absurd k
short_push m e (n ∷ ms) [] h k = absurd k
short_push m e (n ∷ ms) (x ∷ es) h k = (k.0, short_push m e ms es h k.1)

short_drop : (ms : List Mode) (es : List (List (List ℕ))) → ShortEach ms es → ShortEach (drop 1 ms) (drop 1 es)
short_drop [] [] k = tt
short_drop [] (x ∷ es) k = absurd k
short_drop (n ∷ ms) [] k = absurd k
short_drop (n ∷ ms) (x ∷ es) k = k.1

short_moved : (m : Mode) (e : List (List ℕ)) (a : Answer) (ms : List Mode) (es : List (List (List ℕ))) → (IsKept a → ShortIn m e) → ShortEach ms es
    → ShortEach (moved m a ms) (moved e a es)
short_moved m e (kept n) ms es h k = short_push m e ms es (h tt) k
short_moved m e (fetched bytes) ms es h k = short_drop ms es k
short_moved m e was_reset ms es h k = tt
short_moved m e (plain p) ms es h k = k

same_length : (ms : List Mode) (es : List (List (List ℕ))) → ShortEach ms es → length es ≡ length ms
same_length [] [] k = refl
same_length [] (x ∷ es) k = absurd k
same_length (n ∷ ms) [] k = absurd k
same_length (n ∷ ms) (x ∷ es) k = omega (arith, same_length ms es k.1)

-- what waits on a fibre
stacked_short : (ms : List Mode) (es : List (List (List ℕ))) → ShortEach ms es → AllByRecursion (λ mode. mode ≡ ZeroSuppression) ms
    → (f : ℕ) → f < 12 → length (stacked es f) ≤ 267 * length ms
stacked_short [] [] k a f below = omega arith
stacked_short [] (x ∷ es) k a f below = absurd k
stacked_short (n ∷ ms) [] k a f below = absurd k
stacked_short (n ∷ ms) (x ∷ es) k a f below =
    let here : length (record_of x f) ≤ 267 = k.0 a.0 f below in
    omega (arith, length-append (record_of x f) (stacked es f), stacked_short ms es k.1 a.1 f below)

-- ---- room for one more

module _ (room : ℕ) (small : room ≤ largest) (ms : List Mode) (es : List (List (List ℕ))) (r : Readout) (h : Holds room es r)
    (k : ShortEach ms es) (all : AllByRecursion (λ mode. mode ≡ ZeroSuppression) ms) (few : length ms < room / 267) where
  fits : (e : List (List ℕ)) → Short e → (f : ℕ) → f < 12 → exceeds r e f ≡ false
  fits e short f below =
      let level_is : level_of r.lists f ≡ length (stacked es f) = ap length (h.each f below) in
      let most : length (stacked es f) ≤ 267 * length ms = stacked_short ms es k all f below in
      let this : length (record_of e f) ≤ 267 = short f below in
      let has : r.room ≡ room = h.capacity in
      le-ltb (r.room - level_of r.lists f) (length (record_of e f)) (omega arith)

  no_loss : (e : List (List ℕ)) → Short e → loss r e ≡ None
  unfolding loss
  no_loss e short =
      let count : length r.events ≡ length ms = ap length h.lengths ∙ (length-map es lengths_of ∙ same_length ms es k) in
      cond-false (leb most_events (length r.events)) _ (lacking (lowest (exceeds r e)))
      (lt-leb most_events (length r.events) (omega arith))
      ∙ ap lacking (lowest_none (exceeds r e) (fits e short))

-- ---- over every list of calls

module _ (formed : RecordsOfTheLayout) (meaning : Meaning) (bounded : Bounded meaning) (room : ℕ) where
  -- a completed zero-suppressed event is short
  short_completed : (s : CardState) (c : Call) → Completion s c ZeroSuppression → Short (records_by meaning s c)
  short_completed s c k f below =
      let l : length (record_of (records_by meaning s c) f) ≤ longest (kind_in s.settings.mode) =
      (lengths_of_kind formed meaning bounded s.settings (columns_by s c) k.complete f below).1
      in
      subst (λ (m : Mode). length (record_of (records_by meaning s c) f) ≤ longest (kind_in m)) k.mode_is l

  run_short : (calls : List Call) → ShortEach (modes_waiting meaning room calls) (records_waiting meaning room calls)
  run_short [] = tt
  run_short (c ∷ h) =
      let s = state_after meaning room h in
      short_moved s.settings.mode (records_by meaning s c) (answer_after meaning room h c) (modes_waiting meaning room h) (records_waiting meaning room h)
      (λ k z.
      short_completed s c
      (completion meaning s (run_captured meaning room h) c ZeroSuppression ((kept_if meaning s c).kept_completes k ∙ ap Some z)))
      (run_short h)

  pub no_early_loss : room ≤ largest → (calls : List Call) → NoEarlyLoss meaning room calls
  no_early_loss small [] = tt
  no_early_loss small (c ∷ h) = (
    no_early_loss small h,
    λ e all few.
        let s = state_after meaning room h in
        (kept_if meaning s c).unless_lost ZeroSuppression e
        (no_loss room small (modes_waiting meaning room h) (records_waiting meaning room h) s.readout (run_holds meaning room h) (run_short h) all few
        (records_by meaning s c) (short_completed s c (completion meaning s (run_captured meaning room h) c ZeroSuppression e))),
  )
