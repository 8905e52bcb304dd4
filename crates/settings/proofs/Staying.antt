-- How long a setting is in force, and that what is kept is in range.
-- Assumes nothing.
use Rattle.std.proofs.Common.{◌≡◌, ℕ, ◌<◌, Bool, true, zero, suc, List, [], ◌∷◌, ◌++◌, length, get_or, set, refl, ap, ◌∙◌, subst, ⊎_elim, append-nil, arith, lit<, length-set, get_or-set_other, get_or-set_same}
use mathlib.Core.Path.{subst⁻¹}
use Rattle.std.proofs.lemmas.List.{get_or-replicate, length-replicate}
use Rattle.std.proofs.lemmas.Bool.{cases_eq}
use Rattle.std.specs.List.{AllByRecursion}
use Rattle.terms.specs.Terms.{part}
use Rattle.terms.specs.declared.enable.Enable.{Enable}
use Rattle.terms.specs.declared.fibre.Fibre.{Fibre}
use Rattle.terms.specs.declared.pair.Pair.{Pair}
use Rattle.terms.specs.declared.pair.Side.{Side}
use Rattle.terms.specs.declared.pair.Side.TheVariants as sides
use Rattle.settings.specs.declared.card.CardSettings.{CardSettings}
use Rattle.settings.specs.declared.fibre.FibreSettings.{FibreSettings}
use Rattle.settings.specs.declared.parts.Pedestal.{Pedestal}
use Rattle.settings.specs.declared.parts.Thresholds.{Thresholds}
use Rattle.settings.specs.declared.parts.TickThreshold.{TickThreshold}
use Rattle.settings.specs.declared.strip.StripSettings.{StripSettings}
use Rattle.settings.specs.declared.setting.Setting.{Setting}
use Rattle.settings.specs.declared.setting.Setting.TheVariants as settings
use Rattle.settings.specs.Force.{InForce, Elsewhere, StripKnown, InRange, settings_after, StaysInForce, FreshStays, StaysInRange}
use Rattle.settings.specs.Order.{in_order}
use Rattle.settings.specs.Settings.{fresh_fibre, fresh_card, no_fibre, fresh_strip, no_strip, applied, of_fibre, at_fibre, of_strip, at_strip, strip_with_pedestal, strip_with_thresholds, with_tick, with_pedestal, with_thresholds, with_part, with_rank}

-- one list, changed at one place

-- what holds of an element holds of it after a change at i, if the change keeps it there
changed_keeps :
    {X : Type 0} (P : X → Type 0) (xs : List X) (k i : ℕ) (g : X → X) (d : X) → k < length xs →
    (k ≡ i → P (get_or xs i d) → P (g (get_or xs i d))) → P (get_or xs k d) → P (get_or (set xs i (g (get_or xs i d))) k d)
changed_keeps P xs k i g d h same p =
    ⊎_elim
    (λ e.
    subst⁻¹ (λ (n : ℕ). P (get_or (set xs i (g (get_or xs i d))) n d)) e
    (subst⁻¹ P (get_or-set_same xs i (g (get_or xs i d)) d (subst (λ (n : ℕ). n < length xs) e h)) (same e (subst (λ (n : ℕ). P (get_or xs n d)) e p))))
    (λ e. subst⁻¹ P (get_or-set_other xs i k (g (get_or xs i d)) d e) p)
    (cases_eq k i)

-- what each change keeps holds at every place, also past the end, where nothing is written
changed_stays :
    {X : Type 0} (P : X → Type 0) (xs : List X) (k i : ℕ) (g : X → X) (d : X) → ((x : X) → P x → P (g x)) →
    P (get_or xs k d) → P (get_or (set xs i (g (get_or xs i d))) k d)
changed_stays P [] k i g d keep p = p
changed_stays P (x ∷ xs) zero zero g d keep p = keep x p
changed_stays P (x ∷ xs) zero (suc i) g d keep p = p
changed_stays P (x ∷ xs) (suc k) zero g d keep p = p
changed_stays P (x ∷ xs) (suc k) (suc i) g d keep p = changed_stays P xs k i g d keep p

-- every card that comes about has twelve fibres with 256 strips each, and its numbers are in range

abbrev SoundFibre : FibreSettings → Type 0
SoundFibre x = (length x.strips ≡ 256) × InRange x

-- as the range says it of each strip
abbrev PedestalSmall : StripSettings → Type 0
PedestalSmall s = s.pedestal < 1024

abbrev Ordered : StripSettings → Type 0
Ordered s = in_order s.thresh1 s.thresh2 ≡ true

abbrev Sound : CardSettings → Type 0
Sound c = (length c.fibres ≡ 12) × ((k : ℕ) → k < 12 → SoundFibre (of_fibre c k))

fresh_sound : SoundFibre fresh_fibre
fresh_sound = (
  length-replicate 256 fresh_strip,
  (
    lit< tt,
    (λ k h. subst⁻¹ PedestalSmall (get_or-replicate 256 k fresh_strip no_strip h) (lit< tt)),
    (λ k h. subst⁻¹ Ordered (get_or-replicate 256 k fresh_strip no_strip h) refl),
  ),
)

card_sound : Sound fresh_card
card_sound = (length-replicate 12 fresh_fibre, λ k h. subst⁻¹ SoundFibre (get_or-replicate 12 k fresh_fibre no_fibre h) fresh_sound)

fibre_inside : (c : CardSettings) (f : Fibre) → Sound c → f.index < length c.fibres
fibre_inside c f s = let a = s.0 in let b = f.below in omega arith

sound_at : (c : CardSettings) (f : Fibre) (g : FibreSettings → FibreSettings) → ((x : FibreSettings) → SoundFibre x → SoundFibre (g x)) → Sound c → Sound (at_fibre f g c)
sound_at c f g keep s = (
  length-set c.fibres f.index (g (of_fibre c f.index)) ∙ s.0,
  (λ k h. changed_keeps SoundFibre c.fibres k f.index g no_fibre (rw s.0 h) (λ _ p. keep (of_fibre c f.index) p) (s.1 k h)),
)

-- a change of one strip keeps what it keeps there
strip_at : (P : StripSettings → Type 0) (n : ℕ) (g : StripSettings → StripSettings) (x : FibreSettings) → ((s : StripSettings) → P s → P (g s))
    → length x.strips ≡ 256 → ((k : ℕ) → k < 256 → P (of_strip x k)) → (k : ℕ) → k < 256 → P (of_strip (at_strip n g x) k)
strip_at P n g x keep long all k h = changed_keeps P x.strips k n g no_strip (rw long h) (λ _ p. keep (of_strip x n) p) (all k h)

strip_sound : (n : ℕ) (g : StripSettings → StripSettings) (x : FibreSettings) → ((s : StripSettings) → PedestalSmall s → PedestalSmall (g s))
    → ((s : StripSettings) → Ordered s → Ordered (g s)) → SoundFibre x → SoundFibre (at_strip n g x)
strip_sound n g x small order s = (
  length-set x.strips n (g (of_strip x n)) ∙ s.0,
  (s.1.0, strip_at PedestalSmall n g x small s.0 s.1.1, strip_at Ordered n g x order s.0 s.1.2),
)

pedestal_sound : (n : ℕ) (v : Bool) (p : Pedestal) (x : FibreSettings) → SoundFibre x → SoundFibre (with_pedestal n v p.value x)
pedestal_sound n v p x s = strip_sound n (strip_with_pedestal v p.value) x (λ _ _. p.small) (λ _ h. h) s

thresholds_sound : (n : ℕ) (t : Thresholds) (x : FibreSettings) → SoundFibre x → SoundFibre (with_thresholds n t.thresh1 t.thresh2 x)
thresholds_sound n t x s = strip_sound n (strip_with_thresholds t.thresh1 t.thresh2) x (λ _ h. h) (λ _ _. t.ordered) s

applied_sound : (s : Setting) (c : CardSettings) → Sound c → Sound (applied s c)
unfolding applied
applied_sound (settings.Mode m) c h = h
applied_sound (settings.Tick f e i t) c h =
    sound_at c f (with_tick e i t.value) (λ x p. (p.0, (t.small, p.1.1, p.1.2))) h
applied_sound (settings.Pedestal f n v p) c h = sound_at c f (with_pedestal n v p.value) (pedestal_sound n v p) h
applied_sound (settings.Thresholds f n t) c h = sound_at c f (with_thresholds n t.thresh1 t.thresh2) (thresholds_sound n t) h
applied_sound (settings.Rank f s r) c h = sound_at c f (with_rank s r) (λ x p. p) h

after_sound : (past : List Setting) → Sound (settings_after past)
unfolding settings_after
after_sound [] = card_sound
after_sound (s ∷ past) = applied_sound s (settings_after past) (after_sound past)

pub stays_in_range : StaysInRange
stays_in_range past fibre h = ((after_sound past).1 fibre h).1

-- a setting takes force

takes_at : (P : FibreSettings → Type 0) (c : CardSettings) (f : Fibre) (g : FibreSettings → FibreSettings) → Sound c → P (g (of_fibre c f.index)) → P (of_fibre (at_fibre f g c) f.index)
takes_at P c f g s p = subst⁻¹ P (get_or-set_same c.fibres f.index (g (of_fibre c f.index)) no_fibre (fibre_inside c f s)) p

part_set : (s : Side) (r : ℕ) (q : Pair ℕ) → part (with_part s r q) s ≡ r
part_set sides.Left r q = refl
part_set sides.Right r q = refl

-- the facts about one fibre that make a setting of it be in force
abbrev TickIn : Enable → Bool → TickThreshold → FibreSettings → Type 0
TickIn e i t x = (x.enable ≡ e) × (x.complement ≡ i) × (x.threshold ≡ t.value)

abbrev HasPedestal : Bool → Pedestal → StripSettings → Type 0
HasPedestal v p s = (s.valid ≡ v) × (s.pedestal ≡ p.value)

abbrev PedestalIn : ℕ → Bool → Pedestal → FibreSettings → Type 0
PedestalIn n v p x = HasPedestal v p (of_strip x n)

abbrev HasThresholds : Thresholds → StripSettings → Type 0
HasThresholds t s = (s.thresh1 ≡ t.thresh1) × (s.thresh2 ≡ t.thresh2)

abbrev ThresholdsIn : ℕ → Thresholds → FibreSettings → Type 0
ThresholdsIn n t x = HasThresholds t (of_strip x n)

abbrev RankIn : Side → ℕ → FibreSettings → Type 0
RankIn s r x = part x.ranks s ≡ r

strip_takes : (P : StripSettings → Type 0) (n : ℕ) (g : StripSettings → StripSettings) (x : FibreSettings) → length x.strips ≡ 256 → n < 256
    → P (g (of_strip x n)) → P (of_strip (at_strip n g x) n)
strip_takes P n g x long k p = subst⁻¹ P (get_or-set_same x.strips n (g (of_strip x n)) no_strip (rw long k)) p

takes : (s : Setting) (c : CardSettings) → StripKnown s → Sound c → InForce s (applied s c)
unfolding applied
takes (settings.Mode m) c k h = refl
takes (settings.Tick f e i t) c k h = takes_at (TickIn e i t) c f (with_tick e i t.value) h (refl, refl, refl)
takes (settings.Pedestal f n v p) c k h =
    takes_at (PedestalIn n v p) c f (with_pedestal n v p.value) h
    (strip_takes (HasPedestal v p) n (strip_with_pedestal v p.value) (of_fibre c f.index) ((h.1 f.index f.below).0) k (refl, refl))
takes (settings.Thresholds f n t) c k h =
    takes_at (ThresholdsIn n t) c f (with_thresholds n t.thresh1 t.thresh2) h
    (strip_takes (HasThresholds t) n (strip_with_thresholds t.thresh1 t.thresh2) (of_fibre c f.index) ((h.1 f.index f.below).0) k (refl, refl))
takes (settings.Rank f s r) c k h = takes_at (RankIn s r) c f (with_rank s r) h (part_set s r (of_fibre c f.index).ranks)

-- it stays in force while settings of other places come

stays_at :
    (P : FibreSettings → Type 0) (c : CardSettings) (f g : Fibre) (change : FibreSettings → FibreSettings) → Sound c →
    (f.index ≡ g.index → P (of_fibre c g.index) → P (change (of_fibre c g.index))) → P (of_fibre c f.index) →
    P (of_fibre (at_fibre g change c) f.index)
stays_at P c f g change s same p = changed_keeps P c.fibres f.index g.index change no_fibre (fibre_inside c f s) same p

-- a write to another strip, or to the other side, leaves a strip or a side as it was
strip_kept : (P : StripSettings → Type 0) (n m : ℕ) (g : StripSettings → StripSettings) (x : FibreSettings) → (n ≡ m → ⊥)
    → P (of_strip x n) → P (of_strip (at_strip m g x) n)
strip_kept P n m g x e h = subst⁻¹ P (get_or-set_other x.strips m n (g (of_strip x m)) no_strip e) h

part_kept : (s t : Side) (r y : ℕ) (q : Pair ℕ) → (s ≡ t → ⊥) → part q s ≡ y → part (with_part t r q) s ≡ y
part_kept sides.Left sides.Left r y q e h = absurd (e refl)
part_kept sides.Left sides.Right r y q e h = h
part_kept sides.Right sides.Left r y q e h = h
part_kept sides.Right sides.Right r y q e h = absurd (e refl)

stays : (s n : Setting) (c : CardSettings) → Elsewhere s n → Sound c → InForce s c → InForce s (applied n c)
unfolding applied
stays (settings.Mode m) (settings.Mode m') c away h held = absurd (away refl)
stays (settings.Mode m) (settings.Tick g e' i' t') c away h held = held
stays (settings.Mode m) (settings.Pedestal g n' v' p') c away h held = held
stays (settings.Mode m) (settings.Thresholds g n' t') c away h held = held
stays (settings.Mode m) (settings.Rank g s' r') c away h held = held
stays (settings.Tick f e i t) (settings.Mode m') c away h held = held
stays (settings.Tick f e i t) (settings.Tick g e' i' t') c away h held =
    stays_at (TickIn e i t) c f g (with_tick e' i' t'.value) h
    (λ same _. absurd (away (ap (λ (k : ℕ). (2, k, 0)) same))) held
stays (settings.Tick f e i t) (settings.Pedestal g n' v' p') c away h held =
    stays_at (TickIn e i t) c f g (with_pedestal n' v' p'.value) h (λ _ q. q) held
stays (settings.Tick f e i t) (settings.Thresholds g n' t') c away h held =
    stays_at (TickIn e i t) c f g (with_thresholds n' t'.thresh1 t'.thresh2) h (λ _ q. q) held
stays (settings.Tick f e i t) (settings.Rank g s' r') c away h held =
    stays_at (TickIn e i t) c f g (with_rank s' r') h (λ _ q. q) held
stays (settings.Pedestal f n v p) (settings.Mode m') c away h held = held
stays (settings.Pedestal f n v p) (settings.Tick g e' i' t') c away h held =
    stays_at (PedestalIn n v p) c f g (with_tick e' i' t'.value) h (λ _ q. q) held
stays (settings.Pedestal f n v p) (settings.Pedestal g n' v' p') c away h held =
    stays_at (PedestalIn n v p) c f g (with_pedestal n' v' p'.value) h
    (λ same q.
    let other : n ≡ n' → ⊥ = λ e. away (cc) in
    strip_kept (HasPedestal v p) n n' (strip_with_pedestal v' p'.value) (of_fibre c g.index) other q)
    held
stays (settings.Pedestal f n v p) (settings.Thresholds g n' t') c away h held =
    stays_at (PedestalIn n v p) c f g (with_thresholds n' t'.thresh1 t'.thresh2) h
    (λ _ q. changed_stays (HasPedestal v p) (of_fibre c g.index).strips n n' (strip_with_thresholds t'.thresh1 t'.thresh2) no_strip (λ _ w. w) q) held
stays (settings.Pedestal f n v p) (settings.Rank g s' r') c away h held =
    stays_at (PedestalIn n v p) c f g (with_rank s' r') h (λ _ q. q) held
stays (settings.Thresholds f n t) (settings.Mode m') c away h held = held
stays (settings.Thresholds f n t) (settings.Tick g e' i' t') c away h held =
    stays_at (ThresholdsIn n t) c f g (with_tick e' i' t'.value) h (λ _ q. q) held
stays (settings.Thresholds f n t) (settings.Pedestal g n' v' p') c away h held =
    stays_at (ThresholdsIn n t) c f g (with_pedestal n' v' p'.value) h
    (λ _ q. changed_stays (HasThresholds t) (of_fibre c g.index).strips n n' (strip_with_pedestal v' p'.value) no_strip (λ _ w. w) q) held
stays (settings.Thresholds f n t) (settings.Thresholds g n' t') c away h held =
    stays_at (ThresholdsIn n t) c f g (with_thresholds n' t'.thresh1 t'.thresh2) h
    (λ same q.
    let other : n ≡ n' → ⊥ = λ e. away (cc) in
    strip_kept (HasThresholds t) n n' (strip_with_thresholds t'.thresh1 t'.thresh2) (of_fibre c g.index) other q)
    held
stays (settings.Thresholds f n t) (settings.Rank g s' r') c away h held =
    stays_at (ThresholdsIn n t) c f g (with_rank s' r') h (λ _ q. q) held
stays (settings.Rank f s r) (settings.Mode m') c away h held = held
stays (settings.Rank f s r) (settings.Tick g e' i' t') c away h held =
    stays_at (RankIn s r) c f g (with_tick e' i' t'.value) h (λ _ q. q) held
stays (settings.Rank f s r) (settings.Pedestal g n' v' p') c away h held =
    stays_at (RankIn s r) c f g (with_pedestal n' v' p'.value) h (λ _ q. q) held
stays (settings.Rank f s r) (settings.Thresholds g n' t') c away h held =
    stays_at (RankIn s r) c f g (with_thresholds n' t'.thresh1 t'.thresh2) h (λ _ q. q) held
stays (settings.Rank f s r) (settings.Rank g s' r') c away h held =
    stays_at (RankIn s r) c f g (with_rank s' r') h
    (λ same q. part_kept s s' r' r (of_fibre c g.index).ranks (λ e. away (cc)) q) held

-- over whole runs

kept : (s : Setting) (later past : List Setting) → AllByRecursion (Elsewhere s) later → InForce s (settings_after past) → InForce s (settings_after (later ++ past))
unfolding settings_after
kept s [] past a h = h
kept s (n ∷ later) past a h =
    stays s n (settings_after (later ++ past)) a.0 (after_sound (later ++ past)) (kept s later past a.1 h)

pub stays_in_force : StaysInForce
unfolding settings_after
stays_in_force earlier later s k a = kept s later (s ∷ earlier) a (takes s (settings_after earlier) k (after_sound earlier))

pub fresh_stays : FreshStays
unfolding settings_after
fresh_stays later s a h = subst (λ (l : List Setting). InForce s (settings_after l)) (append-nil later) (kept s later [] a h)
