-- A call of a card and the call of its twin: alike answers, and cards that stay alike.
-- Assumes nothing.
use Rattle.std.proofs.Common.{◌≡◌, ℕ, ◌<◌, Bool, true, false, cond, ltb, leb, List, [], ◌∷◌, get_or, Some, None, Ok, Err, Option, Result, refl, ap}
use Rattle.std.proofs.lemmas.Bool.{ltb-true}
use Rattle.terms.specs.declared.refusal.Refusal.{Refusal}
use Rattle.terms.specs.declared.refusal.Refusal.TheVariants.{CaptureRunning, NothingWaiting, NoSuchFibre, SlipOut, NoSlipOut, BufferTooShort}
use Rattle.stores.specs.Store.{level_of}
use Rattle.settings.specs.declared.card.CardSettings.{CardSettings}
use Rattle.settings.specs.declared.setting.Setting.{Setting}
use Rattle.settings.specs.Settings.{of_fibre}
use Rattle.settings.specs.Words.{decoded}
use Rattle.ticker.specs.Step.{judged, next, pulses, heard}
use Rattle.ticker.specs.declared.header.FrameHeader.{FrameHeader}
use Rattle.ticker.specs.declared.state.State.{State}
use Rattle.ticker.proofs.Judged.{either_level, same_next, same_pulse, same_header}
use Rattle.card_model.specs.Calls.{plain, Plain, refused, level_is}
use Rattle.card_model.specs.State.{Watch, watch_of, Capture, CardState}
use Rattle.card_model.specs.Readout.{event_length, oldest_lengths, oldest_bytes, without_event}
use Rattle.card_model.specs.Clock.{Outcome, level_in, ticked, watches_after, pulses_with}
use Rattle.card_model.specs.Step.{unchanged, refusing, loaded, load_in, load_step, ask_waiting, ask_step, fetching, fetch_step, giving_back, give_back_step, level_step, resetting, reset_step}
use Rattle.card_model.specs.Laws.{IsKept}
use Rattle.card_model.specs.Twins.{Constants, BytesAlike, Alike}
use Rattle.card_model.proofs.Fibres.{for_same}

-- ---- the tickers of both

module _ (settings : CardSettings) (ws : List Watch) (xs ys : List ℕ)
    (same : (f : ℕ) → f < 12 → judged (of_fibre settings f).enable (watch_of ws f).state ≡ true
    → level_in (of_fibre settings f) (get_or ys f 0) ≡ level_in (of_fibre settings f) (get_or xs f 0)) where
  same_ticked : (f : ℕ) → f < 12
      → ticked (of_fibre settings f) (get_or ys f 0) (watch_of ws f) ≡ ticked (of_fibre settings f) (get_or xs f 0) (watch_of ws f)
  same_ticked f below =
      let fibre = of_fibre settings f in
      let w = watch_of ws f in
      either_level (judged fibre.enable w.state)
      (λ (l : Bool). record { state = next fibre.enable w.state l; header = heard fibre.enable w.state l w.header })
      (level_in fibre (get_or ys f 0)) (level_in fibre (get_or xs f 0)) (same f below)
      (λ j. both (same_next fibre.enable w.state j) (same_header fibre.enable w.state w.header j))
    where
      both : {a b : State} {g h : FrameHeader} → a ≡ b → g ≡ h
          → ◌≡◌ {A = Watch} (record { state = a; header = g }) (record { state = b; header = h })
      both p q = cc

  pub same_watches : watches_after settings ws ys ≡ watches_after settings ws xs
  unfolding watches_after
  same_watches =
      for_same (λ f. ticked (of_fibre settings f) (get_or ys f 0) (watch_of ws f)) (λ f. ticked (of_fibre settings f) (get_or xs f 0) (watch_of ws f)) same_ticked

  pub same_pulses : pulses_with settings ws ys ≡ pulses_with settings ws xs
  unfolding pulses_with
  same_pulses =
      for_same (λ f. pulses (of_fibre settings f).enable (watch_of ws f).state (level_in (of_fibre settings f) (get_or ys f 0)))
      (λ f. pulses (of_fibre settings f).enable (watch_of ws f).state (level_in (of_fibre settings f) (get_or xs f 0)))
      (λ f below.
      let fibre = of_fibre settings f in
      let w = watch_of ws f in
      either_level (judged fibre.enable w.state) (λ (l : Bool). pulses fibre.enable w.state l)
      (level_in fibre (get_or ys f 0)) (level_in fibre (get_or xs f 0)) (same f below) (same_pulse fibre.enable w.state))

-- ---- alike cards

-- a capture runs in both or in none, at one position, with the same fibres in step
abbrev pub CapturesAlike : Option Capture → Option Capture → Type 0
CapturesAlike None None = Unit {0}
CapturesAlike None (Some d) = ⊥
CapturesAlike (Some c) None = ⊥
CapturesAlike (Some c) (Some d) = (d.position ≡ c.position) × (d.in_step ≡ c.in_step)

-- the twin may differ in the captured samples and in the bytes that wait
pub record CardsAlike (s t : CardState) : Type 0 where
  pub settings : t.settings ≡ s.settings
  pub watches : t.watches ≡ s.watches
  pub captures : CapturesAlike s.capture t.capture
  pub slips : t.readout.slip_out ≡ s.readout.slip_out

-- a card out of its parts
abbrev made_of : CardSettings → List Watch → Option Capture → List (List ℕ) → ℕ → List (List ℕ) → Bool → CardState
made_of settings watches capture lists room events out =
    record {
      settings = settings;
      watches = watches;
      capture = capture;
      readout = record { lists = lists; room = room; events = events; slip_out = out };
    }

-- a card that differs from another in the capture and in the bytes that wait alone
abbrev pub differing : CardState → Option Capture → List (List ℕ) → CardState
differing s capture lists =
    made_of s.settings s.watches capture lists s.readout.room s.readout.events s.readout.slip_out

pub is_differing : (s t : CardState) → CardsAlike s t → t.readout.room ≡ s.readout.room → t.readout.events ≡ s.readout.events
    → t ≡ differing s t.capture t.readout.lists
is_differing s t a room events = same t.capture t.readout.lists a.settings a.watches room events a.slips
  where
    same : (c : Option Capture) (l : List (List ℕ)) {g h : CardSettings} {v w : List Watch} {m n : ℕ} {d e : List (List ℕ)} {p q : Bool}
        → g ≡ h → v ≡ w → m ≡ n → d ≡ e → p ≡ q → made_of g v c l m d p ≡ made_of h w c l n e q
    same c l e1 e2 e3 e4 e5 = cc

-- what a call leads to in both: alike cards and alike answers, and where an event is kept, a fact of it
pub record LeadsAlike (k : Option Constants) (IfKept : Type 0) (o p : Outcome) : Type 0 where
  pub cards : CardsAlike o.next_card p.next_card
  pub answers : Alike k o.answer p.answer
  pub kept_alike : IsKept o.answer → IfKept

-- a call with which no event is kept
pub plain_alike : (k : Option Constants) (IfKept : Type 0) (s t : CardState) (p : Plain) → CardsAlike s t
    → LeadsAlike k IfKept (unchanged s p) (unchanged t p)
plain_alike k IfKept s t p a = record { cards = a; answers = refl; kept_alike = λ kept. absurd kept }

-- ---- the calls but Clock, of a card and of one that differs from it in the capture and in the bytes that wait

module _ (k : Option Constants) (IfKept : Type 0) (s : CardState) (capture : Option Capture) (lists : List (List ℕ))
    (captures : CapturesAlike s.capture capture)
    (levels : (f : ℕ) → f < 12 → level_of lists f ≡ level_of s.readout.lists f)
    (oldest : BytesAlike k (oldest_bytes s.readout) (oldest_bytes (differing s capture lists).readout)) where
  abbrev t : CardState
  t = differing s capture lists

  abbrev AlikeWays : Outcome → Outcome → Type 0
  AlikeWays o p = LeadsAlike k IfKept o p

  cards_alike : CardsAlike s t
  cards_alike = record { settings = refl; watches = refl; captures = captures; slips = refl }

  refused_alike : (p : Plain) → AlikeWays (unchanged s p) (unchanged t p)
  refused_alike p = plain_alike k IfKept s t p cards_alike

  loaded_alike : (r : Result Setting Refusal) → AlikeWays (loaded s r) (loaded t r)
  loaded_alike (Ok setting) =
      record {
        cards = record { settings = refl; watches = refl; captures = captures; slips = refl };
        answers = refl;
        kept_alike = λ kept. absurd kept;
      }
  loaded_alike (Err e) = refused_alike (refused e)

  load_in_alike : (word : ℕ) (o q : Option Capture) → CapturesAlike o q → AlikeWays (load_in o s word) (load_in q t word)
  load_in_alike word None None a = loaded_alike (decoded word)
  load_in_alike word None (Some d) a = absurd a
  load_in_alike word (Some c) None a = absurd a
  load_in_alike word (Some c) (Some d) a = refused_alike (refused CaptureRunning)

  pub load_alike : (word : ℕ) → AlikeWays (load_step s word) (load_step t word)
  unfolding load_step
  load_alike word = load_in_alike word s.capture capture captures

  ask_in_alike : (out : Bool) (events : List (List ℕ))
      → AlikeWays (cond out (refusing s SlipOut) (ask_waiting events s)) (cond out (refusing t SlipOut) (ask_waiting events t))
  ask_in_alike true events = refused_alike (refused SlipOut)
  ask_in_alike false [] = refused_alike (refused NothingWaiting)
  ask_in_alike false (lengths ∷ later) =
      record {
        cards = record { settings = refl; watches = refl; captures = captures; slips = refl };
        answers = refl;
        kept_alike = λ kept. absurd kept;
      }

  pub ask_alike : AlikeWays (ask_step s) (ask_step t)
  unfolding ask_step
  ask_alike = ask_in_alike s.readout.slip_out s.readout.events

  fetching_alike : AlikeWays (fetching s) (fetching t)
  unfolding without_event
  fetching_alike =
      record {
        cards = record { settings = refl; watches = refl; captures = captures; slips = refl };
        answers = (oldest_bytes t.readout, refl, oldest);
        kept_alike = λ kept. absurd kept;
      }

  fetch_in_alike : (long : ℕ) (out enough : Bool)
      → AlikeWays (cond out (cond enough (fetching s) (refusing s (BufferTooShort long))) (refusing s NoSlipOut))
      (cond out (cond enough (fetching t) (refusing t (BufferTooShort long))) (refusing t NoSlipOut))
  fetch_in_alike long true true = fetching_alike
  fetch_in_alike long true false = refused_alike (refused (BufferTooShort long))
  fetch_in_alike long false enough = refused_alike (refused NoSlipOut)

  pub fetch_alike : (buffer : ℕ) → AlikeWays (fetch_step s buffer) (fetch_step t buffer)
  unfolding fetch_step
  fetch_alike buffer =
      let long = event_length (oldest_lengths s.readout) in
      fetch_in_alike long s.readout.slip_out (leb long buffer)

  give_back_in_alike : (out : Bool)
      → AlikeWays (cond out (giving_back s) (refusing s NoSlipOut)) (cond out (giving_back t) (refusing t NoSlipOut))
  give_back_in_alike true =
      record {
        cards = record { settings = refl; watches = refl; captures = captures; slips = refl };
        answers = refl;
        kept_alike = λ kept. absurd kept;
      }
  give_back_in_alike false = refused_alike (refused NoSlipOut)

  pub give_back_alike : AlikeWays (give_back_step s) (give_back_step t)
  unfolding give_back_step
  give_back_alike = give_back_in_alike s.readout.slip_out

  level_in_alike : (f : ℕ) (known : Bool) → (known ≡ true → f < 12)
      → AlikeWays (cond known (unchanged s (level_is (level_of s.readout.lists f))) (refusing s NoSuchFibre))
      (cond known (unchanged t (level_is (level_of lists f))) (refusing t NoSuchFibre))
  level_in_alike f true below =
      record {
        cards = cards_alike;
        answers = ap (λ (n : ℕ). plain (level_is n)) (levels f (below refl));
        kept_alike = λ kept. absurd kept;
      }
  level_in_alike f false below = refused_alike (refused NoSuchFibre)

  pub level_alike : (f : ℕ) → AlikeWays (level_step s f) (level_step t f)
  unfolding level_step
  level_alike f = level_in_alike f (ltb f 12) (ltb-true f 12)

  reset_in_alike : (out : Bool) → AlikeWays (cond out (refusing s SlipOut) (resetting s)) (cond out (refusing t SlipOut) (resetting t))
  reset_in_alike true = refused_alike (refused SlipOut)
  reset_in_alike false =
      record {
        cards = record { settings = refl; watches = refl; captures = tt; slips = refl };
        answers = refl;
        kept_alike = λ kept. absurd kept;
      }

  pub reset_alike : AlikeWays (reset_step s) (reset_step t)
  unfolding reset_step
  reset_alike = reset_in_alike s.readout.slip_out
