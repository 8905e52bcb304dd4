-- Tests that say yes only of the samples of twins, Clock by Clock.
-- Assumes nothing.
use Rattle.std.proofs.Common.{◌≡◌, ℕ, ◌+◌, ◌<◌, ◌≤◌, Bool, true, false, not, ◌&&◌, ◌||◌, eqb, leb, List, [], ◌∷◌, length, get_or, ℤ, pos, negsuc, ◌+ℤ◌, Some, None, Option, refl, ap, ◌∙◌, subst, ⊎_elim, arith, lit<}
use Rattle.std.specs.List.{range_with_len, AllByRecursion}
use Rattle.std.proofs.lemmas.List.FromFn.{length-range_with_len, get_or-range_with_len}
use Rattle.std.proofs.ByRecursion.{All-get_or}
use Rattle.std.proofs.lemmas.Bool.{both_ways, and_parts, or_cases, eqb-true, leb-true}
use Rattle.terms.specs.declared.pair.Side.{Side}
use Rattle.terms.specs.declared.pair.Side.TheVariants.{Left, Right}
use Rattle.settings.specs.declared.fibre.FibreSettings.{FibreSettings}
use Rattle.settings.specs.declared.mode.Mode.{Mode}
use Rattle.settings.specs.declared.mode.Mode.TheVariants.{ZeroSuppression, ProcessedRaw, VirginRaw}
use Rattle.settings.specs.Settings.{of_fibre, of_strip}
use Rattle.ticker.specs.Step.{judged}
use Rattle.strips.specs.Fibre.{side_of, counts, level}
use Rattle.strips.specs.Laws.{ShiftedFibre}
use Rattle.card_model.specs.Calls.{clock}
use Rattle.card_model.specs.State.{CardState, watch_of}
use Rattle.card_model.specs.Clock.{too_large, level_in, row}
use Rattle.card_model.specs.Runs.{completed, columns_with}
use Rattle.card_model.specs.Twins.{Constants, SamplesAlike, TwinSamples, TwinClock}

-- ---- tests

abbrev is_none : {A : Type 0} → Option A → Bool
is_none None = true
is_none (Some a) = false

none_if : {A : Type 0} (o : Option A) → is_none o ≡ true → o ≡ None
none_if None e = refl
none_if (Some a) e = absurd (both_ways false refl e)

abbrev same : Bool → Bool → Bool
same true b = b
same false b = not b

same_if : (a b : Bool) → same a b ≡ true → a ≡ b
same_if true true e = refl
same_if true false e = absurd (both_ways false refl e)
same_if false true e = absurd (both_ways false refl e)
same_if false false e = refl

abbrev same_number : ℤ → ℤ → Bool
same_number (pos a) (pos b) = eqb a b
same_number (pos a) (negsuc b) = false
same_number (negsuc a) (pos b) = false
same_number (negsuc a) (negsuc b) = eqb a b

same_number_if : (m n : ℤ) → same_number m n ≡ true → m ≡ n
same_number_if (pos a) (pos b) e = ap pos (eqb-true a b e)
same_number_if (pos a) (negsuc b) e = absurd (both_ways false refl e)
same_number_if (negsuc a) (pos b) e = absurd (both_ways false refl e)
same_number_if (negsuc a) (negsuc b) e = ap negsuc (eqb-true a b e)

-- a test that is asked only where another says yes
so_if : (a b : Bool) → (not a || b) ≡ true → a ≡ true → b ≡ true
so_if true b e asked = e
so_if false b e asked = absurd (both_ways false refl asked)

-- a test says yes of each number below n
abbrev every : (ℕ → Bool) → List ℕ → Bool
every test [] = true
every test (k ∷ ks) = test k && every test ks

all_if : (test : ℕ → Bool) (ks : List ℕ) → every test ks ≡ true → AllByRecursion (λ k. test k ≡ true) ks
all_if test [] e = tt
all_if test (k ∷ ks) e = let p = and_parts (test k) (every test ks) e in (p.0, all_if test ks p.1)

each_below : (test : ℕ → Bool) (n : ℕ) → every test (range_with_len 0 n) ≡ true → (k : ℕ) → k < n → test k ≡ true
each_below test n e k below =
    let inside : k < length (range_with_len 0 n) = omega (arith, length-range_with_len 0 n) in
    let at : get_or (range_with_len 0 n) k 0 ≡ 0 + k = get_or-range_with_len 0 n k 0 below in
    let zero : 0 + k ≡ k = omega arith in
    subst (λ (x : ℕ). test x ≡ true) (at ∙ zero) (All-get_or (λ x. test x ≡ true) (range_with_len 0 n) k 0 inside (all_if test (range_with_len 0 n) e))

-- ---- the samples of a completed event

-- a strip has a level from its pedestal to 1022
abbrev on_scale : ℕ → ℕ → Bool
on_scale pedestal u = leb pedestal u && leb u 1022

on_scale_if : (pedestal u : ℕ) → on_scale pedestal u ≡ true → (pedestal ≤ u) × (u ≤ 1022)
on_scale_if pedestal u e =
    let p = and_parts (leb pedestal u) (leb u 1022) e in
    (leb-true pedestal u p.0, leb-true u 1022 p.1)

-- a strip that counts has as much more as its chip, both times from its pedestal to 1022
abbrev shifted_strip : FibreSettings → (Side → ℤ) → List ℕ → List ℕ → ℕ → Bool
shifted_strip fibre c us vs k =
    same_number (pos (level fibre vs k)) (pos (level fibre us k) +ℤ c (side_of k))
    && (on_scale (of_strip fibre k).pedestal (level fibre us k) && on_scale (of_strip fibre k).pedestal (level fibre vs k))

abbrev strip_test : FibreSettings → (Side → ℤ) → List ℕ → List ℕ → ℕ → Bool
strip_test fibre c us vs k = not (counts fibre k) || shifted_strip fibre c us vs k

record StripAlike (fibre : FibreSettings) (c : Side → ℤ) (us vs : List ℕ) (k : ℕ) : Type 0 where
  moved : pos (level fibre vs k) ≡ pos (level fibre us k) +ℤ c (side_of k)
  in_card : ((of_strip fibre k).pedestal ≤ level fibre us k) × (level fibre us k ≤ 1022)
  in_twin : ((of_strip fibre k).pedestal ≤ level fibre vs k) × (level fibre vs k ≤ 1022)

strip_if : (fibre : FibreSettings) (c : Side → ℤ) (us vs : List ℕ) (k : ℕ) → strip_test fibre c us vs k ≡ true → counts fibre k ≡ true
    → StripAlike fibre c us vs k
strip_if fibre c us vs k e counted =
    let pedestal = (of_strip fibre k).pedestal in
    let p = and_parts (same_number (pos (level fibre vs k)) (pos (level fibre us k) +ℤ c (side_of k)))
    (on_scale pedestal (level fibre us k) && on_scale pedestal (level fibre vs k))
    (so_if (counts fibre k) (shifted_strip fibre c us vs k) e counted) in
    let q = and_parts (on_scale pedestal (level fibre us k)) (on_scale pedestal (level fibre vs k)) p.1 in
    record {
      moved = same_number_if (pos (level fibre vs k)) (pos (level fibre us k) +ℤ c (side_of k)) p.0;
      in_card = on_scale_if pedestal (level fibre us k) q.0;
      in_twin = on_scale_if pedestal (level fibre vs k) q.1;
    }

-- the first strip of a chip counts if its constant is not 0
abbrev first_strip : Side → ℕ
first_strip Left = 0
first_strip Right = 128

first_below : (side : Side) → first_strip side < 256
first_below Left = lit< tt
first_below Right = lit< tt

first_side : (side : Side) → side_of (first_strip side) ≡ side
first_side Left = refl
first_side Right = refl

abbrev chip_test : FibreSettings → (Side → ℤ) → Side → Bool
chip_test fibre c side = same_number (c side) (pos 0) || counts fibre (first_strip side)

chip_if : (fibre : FibreSettings) (c : Side → ℤ) (side : Side) → chip_test fibre c side ≡ true
    → ((k : ℕ) → k < 256 → side_of k ≡ side → counts fibre k ≡ true → ⊥) → c side ≡ pos 0
chip_if fibre c side e never =
    ⊎_elim (λ none. same_number_if (c side) (pos 0) none)
    (λ counted. absurd (never (first_strip side) (first_below side) (first_side side) counted))
    (or_cases (same_number (c side) (pos 0)) (counts fibre (first_strip side)) e)

-- all of a fibre
abbrev fibre_test : FibreSettings → (Side → ℤ) → List ℕ → List ℕ → Bool
fibre_test fibre c us vs = every (strip_test fibre c us vs) (range_with_len 0 256) && (chip_test fibre c Left && chip_test fibre c Right)

fibre_if : (fibre : FibreSettings) (c : Side → ℤ) (us vs : List ℕ) → fibre_test fibre c us vs ≡ true → ShiftedFibre fibre c us vs
fibre_if fibre c us vs e =
    let p = and_parts (every (strip_test fibre c us vs) (range_with_len 0 256)) (chip_test fibre c Left && chip_test fibre c Right) e in
    let at : (k : ℕ) → k < 256 → counts fibre k ≡ true → StripAlike fibre c us vs k =
    λ k below counted. strip_if fibre c us vs k (each_below (strip_test fibre c us vs) 256 p.0 k below) counted in
    record {
      by_constant = λ k below counted. (at k below counted).moved;
      from_pedestal = λ k below counted. ((at k below counted).in_card.0, (at k below counted).in_twin.0);
      on_scale = λ k below counted. ((at k below counted).in_card.1, (at k below counted).in_twin.1);
      none_counts = chips p.1;
    }
  where
    chips : (chip_test fibre c Left && chip_test fibre c Right) ≡ true → (side : Side)
        → ((k : ℕ) → k < 256 → side_of k ≡ side → counts fibre k ≡ true → ⊥) → c side ≡ pos 0
    chips e Left = chip_if fibre c Left (and_parts (chip_test fibre c Left) (chip_test fibre c Right) e).0
    chips e Right = chip_if fibre c Right (and_parts (chip_test fibre c Left) (chip_test fibre c Right) e).1

-- all fibres of an event
abbrev row_test : CardState → CardState → Constants → List ℕ → List ℕ → ℕ → Bool
row_test s t c xs ys f =
    fibre_test (of_fibre s.settings f) (c f) (row (columns_with s.capture xs) f) (row (columns_with t.capture ys) f)

abbrev event_test : CardState → CardState → Constants → List ℕ → List ℕ → Option Mode → Bool
event_test s t c xs ys None = true
event_test s t c xs ys (Some ZeroSuppression) = every (row_test s t c xs ys) (range_with_len 0 12)
event_test s t c xs ys (Some ProcessedRaw) = false
event_test s t c xs ys (Some VirginRaw) = false

event_if : (s t : CardState) (c : Constants) (xs ys : List ℕ) (o : Option Mode) → event_test s t c xs ys o ≡ true
    → SamplesAlike s t c xs ys o
event_if s t c xs ys None e = tt
event_if s t c xs ys (Some ZeroSuppression) e =
    λ f below.
    fibre_if (of_fibre s.settings f) (c f) (row (columns_with s.capture xs) f) (row (columns_with t.capture ys) f)
    (each_below (row_test s t c xs ys) 12 e f below)
event_if s t c xs ys (Some ProcessedRaw) e = absurd (both_ways false refl e)
event_if s t c xs ys (Some VirginRaw) e = absurd (both_ways false refl e)

-- ---- the samples of a Clock

-- a sample that is judged has one level
abbrev level_test : CardState → List ℕ → List ℕ → ℕ → Bool
level_test s xs ys f =
    not (judged (of_fibre s.settings f).enable (watch_of s.watches f).state)
    || same (level_in (of_fibre s.settings f) (get_or ys f 0)) (level_in (of_fibre s.settings f) (get_or xs f 0))

level_if : (s : CardState) (xs ys : List ℕ) (f : ℕ) → level_test s xs ys f ≡ true
    → judged (of_fibre s.settings f).enable (watch_of s.watches f).state ≡ true
    → level_in (of_fibre s.settings f) (get_or ys f 0) ≡ level_in (of_fibre s.settings f) (get_or xs f 0)
level_if s xs ys f e asked =
    let a = level_in (of_fibre s.settings f) (get_or ys f 0) in
    let b = level_in (of_fibre s.settings f) (get_or xs f 0) in
    same_if a b (so_if (judged (of_fibre s.settings f).enable (watch_of s.watches f).state) (same a b) e asked)

-- the samples have ten bits in both, one level where they are judged, and are shifted where they complete an event
abbrev pub clock_test : CardState → CardState → Constants → List ℕ → List ℕ → Bool
clock_test s t c xs ys =
    is_none (too_large xs)
    && (is_none (too_large ys)
    && (every (level_test s xs ys) (range_with_len 0 12) && event_test s t c xs ys (completed s (clock xs))))

pub clock_if : (s t : CardState) (c : Constants) (xs ys : List ℕ) → clock_test s t c xs ys ≡ true
    → TwinClock (too_large xs) s t c xs ys
clock_if s t c xs ys e =
    let levels = every (level_test s xs ys) (range_with_len 0 12) in
    let events = event_test s t c xs ys (completed s (clock xs)) in
    let p = and_parts (is_none (too_large xs)) (is_none (too_large ys) && (levels && events)) e in
    let q = and_parts (is_none (too_large ys)) (levels && events) p.1 in
    let r = and_parts levels events q.1 in
    by (too_large xs) (none_if (too_large xs) p.0)
    (record {
      ten_bits = none_if (too_large ys) q.0;
      same_levels = λ f below asked. level_if s xs ys f (each_below (level_test s xs ys) 12 r.0 f below) asked;
      events_alike = event_if s t c xs ys (completed s (clock xs)) r.1;
    })
  where
    by : (o : Option ℕ) → o ≡ None → TwinSamples s t c xs ys → TwinClock o s t c xs ys
    by None e twin = twin
    by (Some f) e twin = let z : ◌≡◌ {A = ℕ} 0 1 = cc in absurd (omega arith)
