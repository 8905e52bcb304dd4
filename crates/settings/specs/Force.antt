-- How long a setting is in force, over whole runs of setting words.
-- Assumes nothing.
use Rattle.std.specs.Prelude.{◌≡◌, ℕ, ◌<◌, true, List, [], ◌∷◌, ◌++◌}
use Rattle.std.specs.List.{AllByRecursion}
use Rattle.terms.specs.Terms.{part, side_number}
use Rattle.settings.specs.declared.setting.Setting.{Setting}
use Rattle.settings.specs.declared.setting.Setting.TheVariants as settings
use Rattle.settings.specs.declared.card.CardSettings.{CardSettings}
use Rattle.settings.specs.declared.fibre.FibreSettings.{FibreSettings}
use Rattle.settings.specs.Order.{in_order}
use Rattle.settings.specs.Settings.{fresh_card, applied, of_fibre, of_strip}

-- what a setting sets: its kind, its fibre, and its strip or side
abbrev pub place : Setting → ℕ × ℕ × ℕ
place (settings.Mode mode) = (1, 0, 0)
place (settings.Tick fibre enable complement threshold) = (2, fibre.index, 0)
place (settings.Pedestal fibre strip valid pedestal) = (3, fibre.index, strip)
place (settings.Thresholds fibre strip thresholds) = (4, fibre.index, strip)
place (settings.Rank fibre side rank) = (5, fibre.index, side_number side)

-- a setting is in force: the fields of its place have its values
abbrev pub InForce : Setting → CardSettings → Type 0
InForce (settings.Mode mode) card = card.mode ≡ mode
InForce (settings.Tick fibre enable complement threshold) card =
    ((of_fibre card fibre.index).enable ≡ enable)
    × ((of_fibre card fibre.index).complement ≡ complement)
    × ((of_fibre card fibre.index).threshold ≡ threshold.value)
InForce (settings.Pedestal fibre strip valid pedestal) card =
    ((of_strip (of_fibre card fibre.index) strip).valid ≡ valid)
    × ((of_strip (of_fibre card fibre.index) strip).pedestal ≡ pedestal.value)
InForce (settings.Thresholds fibre strip thresholds) card =
    ((of_strip (of_fibre card fibre.index) strip).thresh1 ≡ thresholds.thresh1)
    × ((of_strip (of_fibre card fibre.index) strip).thresh2 ≡ thresholds.thresh2)
InForce (settings.Rank fibre side rank) card = part (of_fibre card fibre.index).ranks side ≡ rank

-- another setting has another place
abbrev pub Elsewhere : Setting → Setting → Type 0
Elsewhere setting other = place setting ≡ place other → ⊥

-- a strip is 0 to 255
abbrev pub StripKnown : Setting → Type 0
StripKnown (settings.Mode mode) = Unit {0}
StripKnown (settings.Tick fibre enable complement threshold) = Unit {0}
StripKnown (settings.Pedestal fibre strip valid pedestal) = strip < 256
StripKnown (settings.Thresholds fibre strip thresholds) = strip < 256
StripKnown (settings.Rank fibre side rank) = Unit {0}

-- the settings of a card after some settings, the newest first
unfoldable pub settings_after : List Setting → CardSettings
settings_after [] = fresh_card
settings_after (setting ∷ earlier) = applied setting (settings_after earlier)

-- a setting is in force from its word on, as long as no later one has its place
abbrev pub StaysInForce : Type 0
StaysInForce =
    (earlier later : List Setting) (setting : Setting) → StripKnown setting → AllByRecursion (Elsewhere setting) later →
    InForce setting (settings_after (later ++ setting ∷ earlier))

-- what a fresh card has is in force as long as no setting has its place
abbrev pub FreshStays : Type 0
FreshStays =
    (later : List Setting) (setting : Setting) → AllByRecursion (Elsewhere setting) later → InForce setting fresh_card →
    InForce setting (settings_after later)

-- the numbers of a fibre's settings are in range: T is 0 to 31, each pedestal 0 to 1023, each strip's thresholds are in order
abbrev pub InRange : FibreSettings → Type 0
InRange fibre =
    (fibre.threshold < 32)
    × ((strip : ℕ) → strip < 256 → (of_strip fibre strip).pedestal < 1024)
    × ((strip : ℕ) → strip < 256 → in_order (of_strip fibre strip).thresh1 (of_strip fibre strip).thresh2 ≡ true)

-- they are in range whatever settings came
abbrev pub StaysInRange : Type 0
StaysInRange = (past : List Setting) (fibre : ℕ) → fibre < 12 → InRange (of_fibre (settings_after past) fibre)
