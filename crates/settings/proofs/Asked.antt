-- The questions that each kind of word is asked, in their order.
-- Assumes nothing.
use Rattle.std.proofs.Common.{◌≡◌, ℕ, Bool, true, false, cond, ◌&&◌, ◌||◌, eqb, ltb, leb, List, ◌∷◌, Some, None, Ok, Err, Option, Result, refl}
use Rattle.terms.specs.declared.refusal.Refusal.{Refusal}
use Rattle.terms.specs.declared.refusal.Refusal.TheVariants.{UnknownSetting, NoSuchFibre, UnusedBits, UnknownMode, ThresholdOrder}
use Rattle.settings.specs.declared.setting.Setting.{Setting}
use Rattle.settings.specs.Fields.{bits, kind, fibre_field, mode_field, thresh1_field, thresh2_field}
use Rattle.settings.specs.Order.{in_order}
use Rattle.settings.specs.Questions.{refusal, first_no}
use Rattle.settings.specs.Words.{decoded, setting_of, mode_setting, tick_setting, pedestal_setting, thresholds_setting, rank_setting}

-- one question: if it is answered no, its refusal; else what follows
abbrev pub ask : Bool → Refusal → Result Setting Refusal → Result Setting Refusal
ask answer no_with more = cond answer more (Err no_with)

abbrev outcome : Option Refusal → Setting → Result Setting Refusal
outcome o s = elim o [ Some e ↦ Err e | None ↦ Ok s ]

asked : (b : Bool) (e : Refusal) (more : List (Bool × Refusal)) (s : Setting) → outcome (first_no ((b, e) ∷ more)) s ≡ ask b e (outcome (first_no more) s)
asked true e more s = refl
asked false e more s = refl

pub decoded_unknown : (w : ℕ) → (leb 1 (kind w) && leb (kind w) 5) ≡ false → decoded w ≡ Err UnknownSetting
unfolding decoded refusal setting_of
decoded_unknown w h = simp (h, asked)

pub decoded_no_fibre :
    (w k : ℕ) → kind w ≡ k → ((leb 1 k && leb k 5) ≡ true) × (eqb k 1 ≡ false) → ltb (fibre_field w) 12 ≡ false → decoded w ≡ Err NoSuchFibre
unfolding decoded refusal setting_of
decoded_no_fibre w k h known f = simp (h, known.0, known.1, f, asked)

pub decoded_mode :
    (w : ℕ) → kind w ≡ 1 →
    decoded w ≡
    ask (eqb (bits 27 5 w) 0 && true) UnusedBits
    (ask (eqb (mode_field w) 6 || (eqb (mode_field w) 10 || eqb (mode_field w) 18)) UnknownMode (Ok (mode_setting w)))
unfolding decoded refusal setting_of
decoded_mode w h = simp (h, asked)

pub decoded_tick :
    (w : ℕ) → kind w ≡ 2 →
    decoded w ≡
    ask (ltb (fibre_field w) 12) NoSuchFibre (ask (eqb (bits 23 8 w) 0 && true) UnusedBits (Ok (tick_setting w)))
unfolding decoded refusal setting_of
decoded_tick w h = simp (h, asked)

pub decoded_pedestal :
    (w : ℕ) → kind w ≡ 3 →
    decoded w ≡
    ask (ltb (fibre_field w) 12) NoSuchFibre (ask (eqb (bits 15 11 w) 0 && true) UnusedBits (Ok (pedestal_setting w)))
unfolding decoded refusal setting_of
decoded_pedestal w h = simp (h, asked)

pub decoded_thresholds :
    (w : ℕ) → kind w ≡ 4 →
    decoded w ≡
    ask (ltb (fibre_field w) 12) NoSuchFibre
    (ask (in_order (thresh1_field w) (thresh2_field w)) ThresholdOrder (Ok (thresholds_setting w)))
unfolding decoded refusal setting_of
decoded_thresholds w h = simp (h, asked)

pub decoded_rank :
    (w : ℕ) → kind w ≡ 5 →
    decoded w ≡
    ask (ltb (fibre_field w) 12) NoSuchFibre
    (ask (eqb (bits 23 17 w) 0 && (eqb (bits 15 8 w) 0 && true)) UnusedBits (Ok (rank_setting w)))
unfolding decoded refusal setting_of
decoded_rank w h = simp (h, asked)
