-- What becomes of a word, from the facts about its fields that a decoder finds out.
-- Assumes nothing.
use Rattle.std.proofs.Common.{◌≡◌, ◌≢◌, ℕ, ◌<◌, ◌≤◌, Bool, true, false, ◌&&◌, ◌||◌, eqb, leb, IsErrAnd, Ok, Err, Result, sym, refl, ap, ◌∙◌}
use Rattle.std.proofs.lemmas.Bool.{and_parts, and_from, and_left, and_right, or_from, eq-eqb, ne_eqb, lt-ltb, le-ltb, leb-true, cond-true, cond-false}
use Rattle.terms.specs.declared.enable.Enable.{Enable}
use Rattle.terms.specs.declared.fibre.Fibre.{Fibre}
use Rattle.terms.specs.declared.pair.Side.{Side}
use Rattle.terms.specs.declared.refusal.Refusal.{Refusal}
use Rattle.terms.specs.declared.refusal.Refusal.TheVariants.{UnknownSetting, NoSuchFibre, UnusedBits, UnknownMode, ThresholdOrder}
use Rattle.settings.specs.declared.mode.Mode.{Mode}
use Rattle.settings.specs.declared.mode.Mode.TheVariants.{ZeroSuppression, ProcessedRaw, VirginRaw}
use Rattle.settings.specs.declared.parts.Pedestal.{Pedestal}
use Rattle.settings.specs.declared.parts.Thresholds.{Thresholds}
use Rattle.settings.specs.declared.parts.TickThreshold.{TickThreshold}
use Rattle.settings.specs.declared.setting.Setting.{Setting}
use Rattle.settings.specs.declared.setting.Setting.TheVariants as settings
use Rattle.settings.specs.Fields.{bits, flag, kind, fibre_field, mode_field, thresh1_field, thresh2_field}
use Rattle.settings.specs.Modes.{mode_number}
use Rattle.settings.specs.Order.{in_order}
use Rattle.settings.specs.Words.{decoded, enable_from, side_from, mode_from, tick_setting, pedestal_setting, thresholds_setting, rank_setting, threshold_from, pedestal_from}
use Rattle.settings.proofs.Asked.{ask, decoded_unknown, decoded_no_fibre, decoded_mode, decoded_tick, decoded_pedestal, decoded_thresholds, decoded_rank}
use Rattle.settings.proofs.Ranges.{same_fibre, same_threshold, same_pedestal, same_thresholds, within}

-- the exit of a `?`
pub refused : (r d : Result Setting Refusal) (y e : Refusal) → IsErrAnd r (λ x. x ≡ y) → y ≡ e → d ≡ Err e → r ≡ d
refused (Ok s) d y e h p q = absurd h
refused (Err x) d y e h p q = ap Err (h ∙ p) ∙ sym q

no : (b : Bool) (e : Refusal) (r : Result Setting Refusal) → b ≡ false → ask b e r ≡ Err e
no b e r h = cond-false b r (Err e) h

yes_then : (b : Bool) (e : Refusal) (r s : Result Setting Refusal) → b ≡ true → r ≡ s → ask b e r ≡ s
yes_then b e r s h k = cond-true b r (Err e) h ∙ k

zero : (n : ℕ) (b : Bool) → n ≡ 0 → b ≡ true → (eqb n 0 && b) ≡ true
zero n b h k = and_from (eqb n 0) b (eq-eqb n 0 h) k

set : (n : ℕ) (b : Bool) → (n ≡ 0 → ⊥) → (eqb n 0 && b) ≡ false
set n b h = and_left (eqb n 0) b (ne_eqb n 0 h)

no_kind : (k : ℕ) (b : Bool) → (leb 1 k && leb k 5) ≡ b → (1 ≤ k → k ≤ 5 → ⊥) → b ≡ false
no_kind k true e h =
    let p = and_parts (leb 1 k) (leb k 5) e in absurd (h (leb-true 1 k p.0) (leb-true k 5 p.1))
no_kind k false e h = refl

pub unknown : (w : ℕ) → (1 ≤ kind w → kind w ≤ 5 → ⊥) → decoded w ≡ Err UnknownSetting
unknown w h = decoded_unknown w (no_kind (kind w) (leb 1 (kind w) && leb (kind w) 5) refl h)

-- the exit of a `?` on the fibre of a word of kind k, 2 to 5
pub fibre_refused :
    (w k : ℕ) (r : Result Setting Refusal) (y : Refusal) → kind w ≡ k → ((leb 1 k && leb k 5) ≡ true) × (eqb k 1 ≡ false) →
    IsErrAnd r (λ x. x ≡ y) → (12 ≤ fibre_field w) × (y ≡ NoSuchFibre) → r ≡ decoded w
fibre_refused w k r y h known exit no_fibre = refused r (decoded w) y NoSuchFibre exit no_fibre.1 (decoded_no_fibre w k h known (le-ltb (fibre_field w) 12 no_fibre.0))

pub mode_unused : (w : ℕ) → kind w ≡ 1 → (bits 27 5 w ≡ 0 → ⊥) → decoded w ≡ Err UnusedBits
mode_unused w k h = decoded_mode w k ∙ no _ _ _ (set (bits 27 5 w) true h)

pub mode_unknown :
    (w : ℕ) → kind w ≡ 1 → bits 27 5 w ≡ 0 → ((mode : Mode) → mode_number mode ≢ mode_field w) → decoded w ≡ Err UnknownMode
mode_unknown w k z none =
    decoded_mode w k ∙ yes_then _ _ _ _ (zero (bits 27 5 w) true z refl)
    (no _ _ _ (or_from _ _ (is_not VirginRaw) (or_from _ _ (is_not ZeroSuppression) (is_not ProcessedRaw))))
  where
    is_not : (mode : Mode) → eqb (mode_field w) (mode_number mode) ≡ false
    is_not mode = ne_eqb (mode_field w) (mode_number mode) (λ e. none mode (sym e))

mode_known : (m : Mode) → let n = mode_number m in ((eqb n 6 || (eqb n 10 || eqb n 18)) ≡ true) × (mode_from n ≡ m)
mode_known ZeroSuppression = (refl, refl)
mode_known ProcessedRaw = (refl, refl)
mode_known VirginRaw = (refl, refl)

pub mode_taken : (w : ℕ) (m : Mode) → kind w ≡ 1 → bits 27 5 w ≡ 0 → mode_number m ≡ mode_field w → Ok (settings.Mode m) ≡ decoded w
mode_taken w m k z is =
    sym
    (decoded_mode w k ∙ yes_then _ _ _ _ (zero (bits 27 5 w) true z refl)
    (simp (sym is) (yes_then _ _ _ _ (mode_known m).0 (ap (λ (x : Mode). Ok (settings.Mode x)) (mode_known m).1))))

pub tick_unused : (w : ℕ) → kind w ≡ 2 → fibre_field w < 12 → (bits 23 8 w ≡ 0 → ⊥) → decoded w ≡ Err UnusedBits
tick_unused w k f h =
    decoded_tick w k ∙ yes_then _ _ _ _ (lt-ltb (fibre_field w) 12 f) (no _ _ _ (set (bits 23 8 w) true h))

pub tick_taken :
    (w : ℕ) {f : Fibre} {e : Enable} {i : Bool} {t : TickThreshold} →
    kind w ≡ 2 → f.index ≡ fibre_field w → bits 23 8 w ≡ 0 → e ≡ enable_from (bits 7 6 w) → i ≡ flag 5 w → t.value ≡ bits 4 0 w →
    Ok (settings.Tick f e i t) ≡ decoded w
tick_taken w {f} {e} {i} {t} k at z p q r =
    let a = same_fibre f (fibre_field w) at in
    let b = same_threshold t (bits 4 0 w) (threshold_from w).small r in
    let taken : Ok (settings.Tick f e i t) ≡ Ok (tick_setting w) = cc in
    taken ∙ sym (decoded_tick w k ∙ yes_then _ _ _ _ (lt-ltb (fibre_field w) 12 (within f (fibre_field w) at))
    (yes_then _ _ _ _ (zero (bits 23 8 w) true z refl) refl))

pub pedestal_unused : (w : ℕ) → kind w ≡ 3 → fibre_field w < 12 → (bits 15 11 w ≡ 0 → ⊥) → decoded w ≡ Err UnusedBits
pedestal_unused w k f h =
    decoded_pedestal w k ∙ yes_then _ _ _ _ (lt-ltb (fibre_field w) 12 f) (no _ _ _ (set (bits 15 11 w) true h))

pub pedestal_taken :
    (w : ℕ) {f : Fibre} {s : ℕ} {v : Bool} {p : Pedestal} →
    kind w ≡ 3 → f.index ≡ fibre_field w → bits 15 11 w ≡ 0 → s ≡ bits 23 16 w → v ≡ flag 10 w → p.value ≡ bits 9 0 w →
    Ok (settings.Pedestal f s v p) ≡ decoded w
pedestal_taken w {f} {s} {v} {p} k at z strip valid r =
    let a = same_fibre f (fibre_field w) at in
    let b = same_pedestal p (bits 9 0 w) (pedestal_from w).small r in
    let taken : Ok (settings.Pedestal f s v p) ≡ Ok (pedestal_setting w) = cc in
    taken ∙ sym (decoded_pedestal w k ∙ yes_then _ _ _ _ (lt-ltb (fibre_field w) 12 (within f (fibre_field w) at))
    (yes_then _ _ _ _ (zero (bits 15 11 w) true z refl) refl))

pub thresholds_disordered :
    (w : ℕ) → kind w ≡ 4 → fibre_field w < 12 → in_order (thresh1_field w) (thresh2_field w) ≡ false → decoded w ≡ Err ThresholdOrder
thresholds_disordered w k f h = decoded_thresholds w k ∙ yes_then _ _ _ _ (lt-ltb (fibre_field w) 12 f) (no _ _ _ h)

pub thresholds_taken :
    (w : ℕ) {f : Fibre} {s : ℕ} {t : Thresholds} →
    kind w ≡ 4 → f.index ≡ fibre_field w → s ≡ bits 23 16 w → t.thresh1 ≡ thresh1_field w → t.thresh2 ≡ thresh2_field w →
    Ok (settings.Thresholds f s t) ≡ decoded w
thresholds_taken w {f} {s} {t} k at strip p q =
    let a = same_fibre f (fibre_field w) at in
    let b = same_thresholds t (thresh1_field w) (thresh2_field w) p q in
    let taken : Ok (settings.Thresholds f s t) ≡ Ok (thresholds_setting w) = cc in
    let ordered : in_order (thresh1_field w) (thresh2_field w) ≡ true = simp (sym p, sym q) t.ordered in
    taken ∙ sym (decoded_thresholds w k ∙ yes_then _ _ _ _ (lt-ltb (fibre_field w) 12 (within f (fibre_field w) at))
    (yes_then _ _ _ _ ordered refl))

pub rank_unused_high : (w : ℕ) → kind w ≡ 5 → fibre_field w < 12 → (bits 23 17 w ≡ 0 → ⊥) → decoded w ≡ Err UnusedBits
rank_unused_high w k f h =
    decoded_rank w k ∙ yes_then _ _ _ _ (lt-ltb (fibre_field w) 12 f) (no _ _ _ (set (bits 23 17 w) _ h))

pub rank_unused_low : (w : ℕ) → kind w ≡ 5 → fibre_field w < 12 → (bits 15 8 w ≡ 0 → ⊥) → decoded w ≡ Err UnusedBits
rank_unused_low w k f h =
    decoded_rank w k ∙ yes_then _ _ _ _ (lt-ltb (fibre_field w) 12 f)
    (no _ _ _ (and_right (eqb (bits 23 17 w) 0) _ (set (bits 15 8 w) true h)))

pub rank_taken :
    (w : ℕ) {f : Fibre} {s : Side} {r : ℕ} →
    kind w ≡ 5 → f.index ≡ fibre_field w → bits 23 17 w ≡ 0 → bits 15 8 w ≡ 0 → s ≡ side_from (flag 16 w) → r ≡ bits 7 0 w →
    Ok (settings.Rank f s r) ≡ decoded w
rank_taken w {f} {s} {r} k at y z side rank =
    let a = same_fibre f (fibre_field w) at in
    let taken : Ok (settings.Rank f s r) ≡ Ok (rank_setting w) = cc in
    taken ∙ sym (decoded_rank w k ∙ yes_then _ _ _ _ (lt-ltb (fibre_field w) 12 (within f (fibre_field w) at))
    (yes_then _ _ _ _ (zero (bits 23 17 w) _ y (zero (bits 15 8 w) true z refl)) refl))
