-- A part of a setting is known by its numbers: what says that they are in range has one proof at most.
-- Assumes nothing.
use Rattle.std.proofs.Common.{◌≡◌, ℕ, ◌<◌, Bool, true, false, ltb, refl, subst}
use mathlib.Core.Bool.{Bool-set}
use native.Mathlib.Bridge.{le_prop}
use Rattle.std.proofs.lemmas.Bool.{ltb-true, lt-ltb, both_ways}
use Rattle.terms.specs.declared.fibre.Fibre.{Fibre}
use Rattle.settings.specs.declared.parts.Pedestal.{Pedestal}
use Rattle.settings.specs.declared.parts.Thresholds.{Thresholds}
use Rattle.settings.specs.declared.parts.TickThreshold.{TickThreshold}
use Rattle.settings.specs.Order.{in_order}
use Rattle.settings.specs.Words.{fibre_if, fibre_from, thresholds_if, thresholds_from}

fibre_at : (f : Fibre) (b : Bool) (e : ltb f.index 12 ≡ b) → f ≡ fibre_if f.index b e
fibre_at f true e = λ i. record { index = f.index; below = le_prop f.below (ltb-true f.index 12 e) i }
fibre_at f false e = absurd (both_ways (ltb f.index 12) e (lt-ltb f.index 12 f.below))

pub same_fibre : (f : Fibre) (n : ℕ) → f.index ≡ n → f ≡ fibre_from n
same_fibre f n e = subst (λ (m : ℕ). f ≡ fibre_from m) e (fibre_at f (ltb f.index 12) refl)

pub within : (f : Fibre) (n : ℕ) → f.index ≡ n → n < 12
within f n e = subst (λ (m : ℕ). m < 12) e f.below

pub same_threshold : (t : TickThreshold) (n : ℕ) (h : n < 32) → t.value ≡ n → t ≡ record { value = n; small = h }
same_threshold t n h e =
    subst (λ (m : ℕ). (g : m < 32) → t ≡ record { value = m; small = g }) e
    (λ g i. record { value = t.value; small = le_prop t.small g i }) h

pub same_pedestal : (p : Pedestal) (n : ℕ) (h : n < 1024) → p.value ≡ n → p ≡ record { value = n; small = h }
same_pedestal p n h e =
    subst (λ (m : ℕ). (g : m < 1024) → p ≡ record { value = m; small = g }) e
    (λ g i. record { value = p.value; small = le_prop p.small g i }) h

thresholds_at : (t : Thresholds) (b : Bool) (e : in_order t.thresh1 t.thresh2 ≡ b) → t ≡ thresholds_if t.thresh1 t.thresh2 b e
thresholds_at t true e =
    λ i. record { thresh1 = t.thresh1; thresh2 = t.thresh2; ordered = Bool-set (in_order t.thresh1 t.thresh2) true t.ordered e i }
thresholds_at t false e = absurd (both_ways (in_order t.thresh1 t.thresh2) e t.ordered)

pub same_thresholds : (t : Thresholds) (a b : ℕ) → t.thresh1 ≡ a → t.thresh2 ≡ b → t ≡ thresholds_from a b
same_thresholds t a b p q =
    subst (λ (m : ℕ). t ≡ thresholds_from m b) p
    (subst (λ (m : ℕ). t ≡ thresholds_from t.thresh1 m) q (thresholds_at t (in_order t.thresh1 t.thresh2) refl))
