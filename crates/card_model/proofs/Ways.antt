-- The ways that a call can take, one by one.
-- Assumes nothing.
use Rattle.std.proofs.Common.{◌≡◌, ℕ, true, false, eqb, ltb, leb, List, [], ◌∷◌, Some, None, Ok, Err, Option, Result, refl, ap}
use Rattle.std.proofs.lemmas.Bool.{cond_both}
use Rattle.terms.specs.declared.refusal.Refusal.{Refusal}
use Rattle.terms.specs.declared.refusal.Refusal.TheVariants.{CaptureRunning, SampleTooLarge, NothingWaiting, NoSuchFibre, SlipOut, NoSlipOut, BufferTooShort}
use Rattle.rules.specs.Rules.{Meaning}
use Rattle.stores.specs.Store.{level_of}
use Rattle.settings.specs.declared.setting.Setting.{Setting}
use Rattle.settings.specs.Words.{decoded}
use Rattle.card_model.specs.Calls.{Call, load, clock, ask, fetch, give_back, level, reset, Plain, refused, level_is}
use Rattle.card_model.specs.State.{Watch, Capture, CardState}
use Rattle.card_model.specs.Readout.{event_length, oldest_lengths}
use Rattle.card_model.specs.Clock.{Outcome, too_large, watches_after, pulses_with, sought, within, records_of, completing, all_columns, clocked, last_position}
use Rattle.card_model.specs.Runs.{completed_by, completed}
use Rattle.card_model.specs.Step.{unchanged, refusing, loaded, load_in, load_step, clock_asked, clock_step, slip_given, ask_waiting, ask_step, fetching, fetch_asked, fetch_step, giving_back, give_back_step, level_step, resetting, reset_step, step}

-- the tickers after the samples of a Clock
abbrev pub watches_then : CardState → List ℕ → List Watch
watches_then s samples = watches_after s.settings s.watches samples

-- a Clock carried out completes an event exactly if it is the last of a capture
pub none_completed : (s : CardState) (samples : List ℕ) → too_large samples ≡ None → s.capture ≡ None → completed s (clock samples) ≡ None
none_completed s samples t e = rw (t, e)

pub not_last : (s : CardState) (samples : List ℕ) (c : Capture) → too_large samples ≡ None → s.capture ≡ Some c
    → eqb c.position last_position ≡ false → completed s (clock samples) ≡ None
not_last s samples c t e p = rw (t, e, p)

pub is_last : (s : CardState) (samples : List ℕ) (c : Capture) → too_large samples ≡ None → s.capture ≡ Some c
    → eqb c.position last_position ≡ true → completed s (clock samples) ≡ Some s.settings.mode
is_last s samples c t e p = rw (t, e, p)

-- what holds of an outcome of a call if it holds of each way that the call can take
pub record Ways (meaning : Meaning) (s : CardState) (Q : Call → Outcome → Type 0) : Type 0 where
  -- nothing changes
  pub same : (c : Call) (p : Plain) → completed s c ≡ None → Q c (unchanged s p)
  -- a setting is taken
  pub takes : (word : ℕ) (setting : Setting) → s.capture ≡ None → decoded word ≡ Ok setting → Q (load word) (loaded s (Ok setting))
  -- a Clock without a capture
  pub seeks : (samples : List ℕ) → too_large samples ≡ None → s.capture ≡ None
      → Q (clock samples) (sought s (watches_then s samples) (pulses_with s.settings s.watches samples))
  -- a Clock within a capture
  pub goes_on : (samples : List ℕ) (c : Capture) → too_large samples ≡ None → s.capture ≡ Some c → eqb c.position last_position ≡ false
      → Q (clock samples) (within s (watches_then s samples) c samples)
  -- the last Clock of a capture
  pub completes : (samples : List ℕ) (c : Capture) → too_large samples ≡ None → s.capture ≡ Some c → eqb c.position last_position ≡ true
      → Q (clock samples) (completing s (watches_then s samples) (records_of meaning s.settings (all_columns c samples)))
  -- a slip is given
  pub asks : (lengths : List ℕ) (later : List (List ℕ)) → s.readout.slip_out ≡ false → s.readout.events ≡ lengths ∷ later → Q ask (slip_given s lengths)
  -- an event is fetched
  pub fetches : (buffer : ℕ) → s.readout.slip_out ≡ true → Q (fetch buffer) (fetching s)
  -- a slip is given back
  pub gives_back : s.readout.slip_out ≡ true → Q give_back (giving_back s)
  -- a reset
  pub resets : s.readout.slip_out ≡ false → Q reset (resetting s)

module _ (meaning : Meaning) (s : CardState) (Q : Call → Outcome → Type 0) (w : Ways meaning s Q) where
  loaded_way : (word : ℕ) → s.capture ≡ None → (r : Result Setting Refusal) → decoded word ≡ r → Q (load word) (loaded s r)
  loaded_way word o (Ok setting) e = w.takes word setting o e
  loaded_way word o (Err x) e = w.same (load word) (refused x) refl

  load_way : (word : ℕ) (o : Option Capture) → s.capture ≡ o → Q (load word) (load_in o s word)
  load_way word None e = loaded_way word e (decoded word) refl
  load_way word (Some c) e = w.same (load word) (refused CaptureRunning) refl

  clocked_way : (samples : List ℕ) → too_large samples ≡ None → (o : Option Capture) → s.capture ≡ o → Q (clock samples) (clocked meaning s samples o)
  clocked_way samples t None e = w.seeks samples t e
  clocked_way samples t (Some c) e =
      cond_both (eqb c.position last_position)
      (completing s (watches_then s samples) (records_of meaning s.settings (all_columns c samples)))
      (within s (watches_then s samples) c samples) (Q (clock samples)) (w.completes samples c t e) (w.goes_on samples c t e)

  clock_way : (samples : List ℕ) (o : Option ℕ) → too_large samples ≡ o → Q (clock samples) (clock_asked o meaning s samples)
  clock_way samples None e = clocked_way samples e s.capture refl
  clock_way samples (Some f) e = w.same (clock samples) (refused (SampleTooLarge f)) (ap (λ (o : Option ℕ). completed_by o s) e)

  ask_way : s.readout.slip_out ≡ false → (q : List (List ℕ)) → s.readout.events ≡ q → Q ask (ask_waiting q s)
  ask_way o [] e = w.same ask (refused NothingWaiting) refl
  ask_way o (lengths ∷ later) e = w.asks lengths later o e

  fetch_way : (buffer long : ℕ) → s.readout.slip_out ≡ true → Q (fetch buffer) (fetch_asked long s buffer)
  fetch_way buffer long o =
      cond_both (leb long buffer) (fetching s) (refusing s (BufferTooShort long)) (Q (fetch buffer))
      (λ _. w.fetches buffer o) (λ _. w.same (fetch buffer) (refused (BufferTooShort long)) refl)

  pub each_way : (c : Call) → Q c (step meaning s c)
  unfolding load_step clock_step ask_step fetch_step give_back_step level_step reset_step
  each_way (load word) = load_way word s.capture refl
  each_way (clock samples) = clock_way samples (too_large samples) refl
  each_way ask =
      cond_both s.readout.slip_out (refusing s SlipOut) (ask_waiting s.readout.events s) (Q ask)
      (λ _. w.same ask (refused SlipOut) refl) (λ o. ask_way o s.readout.events refl)
  each_way (fetch buffer) =
      let long = event_length (oldest_lengths s.readout) in
      cond_both s.readout.slip_out (fetch_asked long s buffer) (refusing s NoSlipOut) (Q (fetch buffer))
      (fetch_way buffer long) (λ _. w.same (fetch buffer) (refused NoSlipOut) refl)
  each_way give_back =
      cond_both s.readout.slip_out (giving_back s) (refusing s NoSlipOut) (Q give_back)
      w.gives_back (λ _. w.same give_back (refused NoSlipOut) refl)
  each_way (level f) =
      cond_both (ltb f 12) (unchanged s (level_is (level_of s.readout.lists f))) (refusing s NoSuchFibre) (Q (level f))
      (λ _. w.same (level f) (level_is (level_of s.readout.lists f)) refl) (λ _. w.same (level f) (refused NoSuchFibre) refl)
  each_way reset =
      cond_both s.readout.slip_out (refusing s SlipOut) (resetting s) (Q reset)
      (λ _. w.same reset (refused SlipOut) refl) w.resets
