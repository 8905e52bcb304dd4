-- A capture has a column of samples for each place so far, and a completed event has 256.
-- Assumes nothing.
use Rattle.std.proofs.Common.{◌≡◌, ℕ, ◌+◌, ◌-◌, ◌<◌, ◌≤◌, Bool, true, false, eqb, ltb, leb, List, [], ◌∷◌, ◌++◌, length, get_or, Some, None, Option, refl, ◌∙◌, subst, arith, lit≤}
use mathlib.Core.Path.{subst⁻¹}
use Rattle.std.specs.List.{AllByRecursion}
use Rattle.std.proofs.ByRecursion.{All-push, All-map, All-weaker}
use Rattle.std.proofs.lemmas.List.{length-map, length_push}
use Rattle.std.proofs.lemmas.Bool.{cond_both, ltb-false, leb-true, leb-false, eqb-true, eqb-false}
use Rattle.rules.specs.Rules.{Meaning}
use Rattle.settings.specs.declared.mode.Mode.{Mode}
use Rattle.layout.specs.Event.{TenBits}
use Rattle.synch.specs.Vote.{event}
use Rattle.card_model.specs.Calls.{Call, load, clock, ask, fetch, give_back, reset}
use Rattle.card_model.specs.State.{Capture, CardState, fresh}
use Rattle.card_model.specs.Clock.{Outcome, too_large, pulses_with, standings, begun, sought, advanced, within, row, completing, all_columns, last_position, first_sample}
use Rattle.card_model.specs.Step.{step}
use Rattle.card_model.specs.Runs.{state_after, completed, columns_with, columns_by}
use Rattle.card_model.proofs.Fibres.{none_lowest}
use Rattle.card_model.proofs.Ways.{watches_then, none_completed, not_last, is_last, Ways, each_way}

-- a column of samples up to 1023
abbrev pub TenBitColumn : List ℕ → Type 0
TenBitColumn column = (f : ℕ) → f < 12 → get_or column f 0 ≤ 1023

-- a capture is at one of its positions, and has a column for each place that came
pub record Captured (c : Capture) : Type 0 where
  pub low : 6 ≤ c.position
  pub high : c.position ≤ last_position
  pub long : length c.columns ≡ c.position - first_sample
  pub ten_bits : AllByRecursion TenBitColumn c.columns

abbrev pub CapturedSoFar : Option Capture → Type 0
CapturedSoFar None = Unit {0}
CapturedSoFar (Some c) = Captured c

-- samples of a Clock carried out
pub small_samples : (samples : List ℕ) → too_large samples ≡ None → TenBitColumn samples
unfolding too_large
small_samples samples e f below = ltb-false 1023 (get_or samples f 0) (none_lowest (λ g. ltb 1023 (get_or samples g 0)) e f below)

begun_captured : (bs : List Bool) (b : Bool) → CapturedSoFar (begun bs b)
begun_captured bs true = record { low = lit≤ tt; high = lit≤ tt; long = refl; ten_bits = tt }
begun_captured bs false = tt

-- one more Clock
advanced_captured : (c : Capture) (samples : List ℕ) → Captured c → TenBitColumn samples → eqb c.position last_position ≡ false → Captured (advanced c samples)
advanced_captured c samples k t e =
    let n : c.position ≡ last_position → ⊥ = eqb-false c.position last_position e in
    record { low = omega arith; high = omega arith; long = grown.0; ten_bits = grown.1 }
  where
    grown : (length (advanced c samples).columns ≡ c.position + 1 - first_sample) × AllByRecursion TenBitColumn (advanced c samples).columns
    grown =
        cond_both (leb first_sample c.position) (c.columns ++ samples ∷ []) c.columns
        (λ (cols : List (List ℕ)). (length cols ≡ c.position + 1 - first_sample) × AllByRecursion TenBitColumn cols)
        (λ w. (omega (arith, length_push c.columns samples, leb-true first_sample c.position w), All-push TenBitColumn c.columns samples k.ten_bits t))
        (λ w. (omega (arith, leb-false first_sample c.position w), k.ten_bits))

-- the capture after a call
abbrev Goes_on : Call → Outcome → Type 0
Goes_on c o = CapturedSoFar o.next_card.capture

module _ (meaning : Meaning) (s : CardState) (k : CapturedSoFar s.capture) where
  ways : Ways meaning s Goes_on
  unfolding sought within completing
  ways =
      record {
        same = λ c p none. k;
        takes = λ word setting o e. k;
        seeks =
            λ samples t e.
            let pulsed = pulses_with s.settings s.watches samples in
            begun_captured pulsed (event (standings s.settings (watches_then s samples) pulsed));
        goes_on = λ samples c t e p. advanced_captured c samples (subst CapturedSoFar e k) (small_samples samples t) p;
        completes = λ samples c t e p. tt;
        asks = λ lengths later o e. k;
        fetches = λ buffer o. k;
        gives_back = λ o. k;
        resets = λ o. tt;
      }

  step_goes_on : (c : Call) → CapturedSoFar (step meaning s c).next_card.capture
  step_goes_on = each_way meaning s Goes_on ways

-- after every list of calls
pub run_captured : (meaning : Meaning) (room : ℕ) (calls : List Call) → CapturedSoFar (state_after meaning room calls).capture
unfolding fresh
run_captured meaning room [] = tt
run_captured meaning room (c ∷ h) = step_goes_on meaning (state_after meaning room h) (run_captured meaning room h) c

-- the columns of a completed event
pub record Complete (columns : List (List ℕ)) : Type 0 where
  pub places : length columns ≡ 256
  pub ten_bits : AllByRecursion TenBitColumn columns

-- a fibre has 256 samples in it
pub row_length : (columns : List (List ℕ)) (f : ℕ) → Complete columns → length (row columns f) ≡ 256
row_length columns f k = length-map columns (λ column. get_or column f 0) ∙ k.places

pub row_small : (columns : List (List ℕ)) (f : ℕ) → f < 12 → Complete columns → AllByRecursion TenBits (row columns f)
row_small columns f below k =
    All-map TenBits (λ (column : List ℕ). get_or column f 0) columns
    (All-weaker TenBitColumn (λ (column : List ℕ). get_or column f 0 ≤ 1023) (λ column t. t f below) columns k.ten_bits)

-- the last Clock of a capture
last_complete : (c : Capture) (samples : List ℕ) → Captured c → TenBitColumn samples → eqb c.position last_position ≡ true → Complete (all_columns c samples)
last_complete c samples k t p =
    record {
      places = omega (arith, length_push c.columns samples, eqb-true c.position last_position p, k.long);
      ten_bits = All-push TenBitColumn c.columns samples k.ten_bits t;
    }

-- a call that completes an event has all its samples, and the event's mode is the card's
pub record Completion (s : CardState) (c : Call) (n : Mode) : Type 0 where
  pub complete : Complete (columns_by s c)
  pub mode_is : s.settings.mode ≡ n

abbrev IfCompleted : CardState → Call → Outcome → Type 0
IfCompleted s c o = (n : Mode) → completed s c ≡ Some n → Completion s c n

-- a call that completes none
pub not_completed : {X : Type 0} (s : CardState) (c : Call) (n : Mode) → completed s c ≡ None → completed s c ≡ Some n → X
not_completed s c n none e = let z : ◌≡◌ {A = ℕ} 0 1 = cc in absurd (omega arith)

module _ (meaning : Meaning) (s : CardState) (k : CapturedSoFar s.capture) where
  completed_ways : Ways meaning s (IfCompleted s)
  completed_ways =
      record {
        same = λ c p none n. not_completed s c n none;
        takes = λ word setting o e n. not_completed s (load word) n refl;
        seeks = λ samples t e n. not_completed s (clock samples) n (none_completed s samples t e);
        goes_on = λ samples c t e p n. not_completed s (clock samples) n (not_last s samples c t e p);
        completes =
            λ samples c t e p n w.
            record {
              complete =
                  subst⁻¹ (λ (o : Option Capture). Complete (columns_with o samples)) e
                  (last_complete c samples (subst CapturedSoFar e k) (small_samples samples t) p);
              mode_is = let i : completed s (clock samples) ≡ Some s.settings.mode = is_last s samples c t e p in cc;
            };
        asks = λ lengths later o e n. not_completed s ask n refl;
        fetches = λ buffer o n. not_completed s (fetch buffer) n refl;
        gives_back = λ o n. not_completed s give_back n refl;
        resets = λ o n. not_completed s reset n refl;
      }

  pub completion : (c : Call) (n : Mode) → completed s c ≡ Some n → Completion s c n
  completion = each_way meaning s (IfCompleted s) completed_ways
