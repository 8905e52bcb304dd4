-- The rank settings of a card have eight bits after every list of calls.
-- Assumes nothing.
use Rattle.std.proofs.Common.{ℕ, zero, suc, ◌/◌, ◌^◌, ◌<◌, eqb, List, [], ◌∷◌, get_or, replicate, Some, None, Ok, Err, Option, Result, subst, lit<}
use Rattle.std.specs.List.{AllByRecursion}
use Rattle.std.proofs.lemmas.Nat.{mod_below}
use Rattle.std.proofs.ByRecursion.{All-set}
use Rattle.std.proofs.lemmas.Bool.{cond_both}
use Rattle.terms.specs.declared.pair.Pair.{Pair}
use Rattle.terms.specs.declared.pair.Side.{Side}
use Rattle.terms.specs.declared.pair.Side.TheVariants as sides
use Rattle.terms.specs.declared.refusal.Refusal.{Refusal}
use Rattle.rules.specs.Rules.{Meaning}
use Rattle.settings.specs.declared.card.CardSettings.{CardSettings}
use Rattle.settings.specs.declared.setting.Setting.{Setting}
use Rattle.settings.specs.declared.setting.Setting.TheVariants as settings
use Rattle.settings.specs.Fields.{kind}
use Rattle.settings.specs.Questions.{refusal}
use Rattle.settings.specs.Settings.{fresh_fibre, no_fibre, of_fibre, applied, with_tick, with_pedestal, with_thresholds, with_rank, with_part}
use Rattle.settings.specs.Words.{mode_setting, tick_setting, pedestal_setting, thresholds_setting, rank_setting, setting_of, decoded}
use Rattle.strips.specs.Laws.{RanksFit}
use Rattle.card_model.specs.Calls.{Call}
use Rattle.card_model.specs.State.{CardState, fresh}
use Rattle.card_model.specs.Clock.{Outcome, sought, within, completing}
use Rattle.card_model.specs.Runs.{state_after}
use Rattle.card_model.proofs.Ways.{Ways, each_way}

-- a setting whose rank, if it has one, has eight bits
abbrev EightBits : Setting → Type 0
EightBits (settings.Mode mode) = Unit {0}
EightBits (settings.Tick fibre enable complement threshold) = Unit {0}
EightBits (settings.Pedestal fibre strip valid pedestal) = Unit {0}
EightBits (settings.Thresholds fibre strip thresholds) = Unit {0}
EightBits (settings.Rank fibre side rank) = rank < 256

abbrev EightBitsIf : Result Setting Refusal → Type 0
EightBitsIf (Ok setting) = EightBits setting
EightBitsIf (Err e) = Unit {0}

setting_fits : (word : ℕ) → EightBits (setting_of word)
unfolding setting_of
setting_fits word =
    cond_both (eqb (kind word) 1) (mode_setting word) _ EightBits (λ _. tt)
    (λ _.
    cond_both (eqb (kind word) 2) (tick_setting word) _ EightBits (λ _. tt)
    (λ _.
    cond_both (eqb (kind word) 3) (pedestal_setting word) _ EightBits (λ _. tt)
    (λ _.
    cond_both (eqb (kind word) 4) (thresholds_setting word) (rank_setting word) EightBits (λ _. tt)
    (λ _. mod_below (word / 2 ^ 0) 256 (lit< tt)))))

-- the setting of every word that is taken
decoded_fits : (word : ℕ) → EightBitsIf (decoded word)
unfolding decoded
decoded_fits word = by (refusal word)
  where
    by : (o : Option Refusal) → EightBitsIf (elim o [ Some e ↦ Err e | None ↦ Ok (setting_of word) ])
    by (Some e) = tt
    by None = setting_fits word

-- what holds of all and of the default holds wherever one looks
get_or_fits : {X : Type 0} (P : X → Type 0) (xs : List X) (i : ℕ) (d : X) → P d → AllByRecursion P xs → P (get_or xs i d)
get_or_fits P [] i d h a = h
get_or_fits P (x ∷ xs) zero d h a = a.0
get_or_fits P (x ∷ xs) (suc i) d h a = get_or_fits P xs i d h a.1

all_replicate : {X : Type 0} (P : X → Type 0) (n : ℕ) (x : X) → P x → AllByRecursion P (replicate n x)
all_replicate P zero x h = tt
all_replicate P (suc n) x h = (h, all_replicate P n x h)

-- the rank settings of all fibres
abbrev pub AllFit : CardSettings → Type 0
AllFit card = AllByRecursion RanksFit card.fibres

pub fibre_fits : (card : CardSettings) (f : ℕ) → AllFit card → RanksFit (of_fibre card f)
unfolding no_fibre
fibre_fits card f a = get_or_fits RanksFit card.fibres f no_fibre (lit< tt, lit< tt) a

part_fits : (side : Side) (rank : ℕ) (p : Pair ℕ) → rank < 256 → (p.left < 256) × (p.right < 256)
    → ((with_part side rank p).left < 256) × ((with_part side rank p).right < 256)
part_fits sides.Left rank p r h = (r, h.1)
part_fits sides.Right rank p r h = (h.0, r)

applied_fits : (setting : Setting) (card : CardSettings) → EightBits setting → AllFit card → AllFit (applied setting card)
unfolding applied
applied_fits (settings.Mode mode) card e a = a
applied_fits (settings.Tick fibre enable complement threshold) card e a =
    All-set RanksFit card.fibres fibre.index (with_tick enable complement threshold.value (of_fibre card fibre.index))
    (fibre_fits card fibre.index a) a
applied_fits (settings.Pedestal fibre strip valid pedestal) card e a =
    All-set RanksFit card.fibres fibre.index (with_pedestal strip valid pedestal.value (of_fibre card fibre.index))
    (fibre_fits card fibre.index a) a
applied_fits (settings.Thresholds fibre strip thresholds) card e a =
    All-set RanksFit card.fibres fibre.index (with_thresholds strip thresholds.thresh1 thresholds.thresh2 (of_fibre card fibre.index))
    (fibre_fits card fibre.index a) a
applied_fits (settings.Rank fibre side rank) card e a =
    All-set RanksFit card.fibres fibre.index (with_rank side rank (of_fibre card fibre.index))
    (part_fits side rank (of_fibre card fibre.index).ranks e (fibre_fits card fibre.index a)) a

abbrev Fits : Call → Outcome → Type 0
Fits c o = AllFit o.next_card.settings

ways : (meaning : Meaning) (s : CardState) → AllFit s.settings → Ways meaning s Fits
unfolding sought within completing
ways meaning s a =
    record {
      same = λ c p none. a;
      takes = λ word setting o e. applied_fits setting s.settings (subst EightBitsIf e (decoded_fits word)) a;
      seeks = λ samples t e. a;
      goes_on = λ samples c t e p. a;
      completes = λ samples c t e p. a;
      asks = λ lengths later o e. a;
      fetches = λ buffer o. a;
      gives_back = λ o. a;
      resets = λ o. a;
    }

run_fits : (meaning : Meaning) (room : ℕ) (calls : List Call) → AllFit (state_after meaning room calls).settings
unfolding fresh
run_fits meaning room [] = all_replicate RanksFit 12 fresh_fibre (lit< tt, lit< tt)
run_fits meaning room (c ∷ h) =
    each_way meaning (state_after meaning room h) Fits (ways meaning (state_after meaning room h) (run_fits meaning room h)) c

-- the rank settings of every fibre, after every list of calls
pub ranks_fit : (meaning : Meaning) (room : ℕ) (calls : List Call) (f : ℕ) → RanksFit (of_fibre (state_after meaning room calls).settings f)
ranks_fit meaning room calls f = fibre_fits (state_after meaning room calls).settings f (run_fits meaning room calls)
