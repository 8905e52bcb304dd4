-- What holds of every record that is formed.
-- Assumes nothing.
use Rattle.std.specs.Prelude.{◌≡◌, ℕ, ◌+◌, ◌*◌, ◌<◌, ◌≤◌, true, List, length, take, drop, ℤ, pos, ◌+ℤ◌, ◌≢◌, slice_index}
use Rattle.std.specs.List.{AllByRecursion}
use Rattle.terms.specs.declared.pair.Side.{Side}
use Rattle.terms.specs.declared.pair.Side.TheVariants.{Left, Right}
use Rattle.rules.specs.Rules.{Meaning, InRange, ShiftLaw}
use Rattle.settings.specs.declared.fibre.FibreSettings.{FibreSettings}
use Rattle.settings.specs.Settings.{of_strip}
use Rattle.settings.specs.declared.mode.Mode.{Mode}
use Rattle.settings.specs.declared.mode.Mode.TheVariants.{ZeroSuppression}
use Rattle.layout.specs.Event.{ContentOk, TenBits}
use Rattle.strips.specs.Fibre.{side_of, counts, level, content_in, kind_in, fibre_record}

-- a rule answers at most 1023 wherever it can be asked
abbrev pub Bounded : Meaning → Type 0
Bounded meaning = (chip setting : ℕ) (vs : List ℕ) → InRange chip vs → meaning chip setting vs ≤ 1023

-- every record formed is one of the layout, so that the reader accepts it and gives back its content
abbrev pub RecordsOfTheLayout : Type 0
RecordsOfTheLayout =
    (meaning : Meaning) (f : ℕ) (fibre : FibreSettings) (mode : Mode) (samples : List ℕ)
    → Bounded meaning → f < 12 → length samples ≡ 256 → AllByRecursion TenBits samples
    → ContentOk (kind_in mode) (content_in meaning f fibre mode samples)

-- the two inputs of a fibre differ by a constant on each chip: every strip that counts has u in the one and u + c in the
-- other, both from its pedestal to 1022; without such a strip c is 0
pub record ShiftedFibre (fibre : FibreSettings) (c : Side → ℤ) (xs ys : List ℕ) : Type 0 where
  pub by_constant : (s : ℕ) → s < 256 → counts fibre s ≡ true → pos (level fibre ys s) ≡ pos (level fibre xs s) +ℤ c (side_of s)
  pub from_pedestal : (s : ℕ) → s < 256 → counts fibre s ≡ true
      → ((of_strip fibre s).pedestal ≤ level fibre xs s) × ((of_strip fibre s).pedestal ≤ level fibre ys s)
  pub on_scale : (s : ℕ) → s < 256 → counts fibre s ≡ true → (level fibre xs s ≤ 1022) × (level fibre ys s ≤ 1022)
  pub none_counts : (side : Side) → ((s : ℕ) → s < 256 → side_of s ≡ side → counts fibre s ≢ true) → c side ≡ pos 0

-- the number in two bytes of a record, low byte first
abbrev pub number_at : List ℕ → ℕ → ℕ
number_at bytes k = slice_index bytes k + 256 * slice_index bytes (k + 1)

-- two zero-suppressed records have one length and equal bytes outside the common modes, and there each chip's number in the
-- other is its number in the one plus its constant
pub record ShiftedRecord (c : Side → ℤ) (one other : List ℕ) : Type 0 where
  pub lengths : length other ≡ length one
  pub header : take 3 other ≡ take 3 one
  pub left : pos (number_at other 3) ≡ pos (number_at one 3) +ℤ c Left
  pub right : pos (number_at other 5) ≡ pos (number_at one 5) +ℤ c Right
  pub clusters : drop 7 other ≡ drop 7 one

-- the rank settings of a fibre have eight bits
abbrev pub RanksFit : FibreSettings → Type 0
RanksFit fibre = (fibre.ranks.left < 256) × (fibre.ranks.right < 256)

-- where the rule keeps the shift law, shifted inputs give shifted records
abbrev pub ShiftsRecords : Type 0
ShiftsRecords =
    (meaning : Meaning) (f : ℕ) (fibre : FibreSettings) (c : Side → ℤ) (xs ys : List ℕ)
    → ShiftLaw meaning → f < 12 → RanksFit fibre → ShiftedFibre fibre c xs ys
    → ShiftedRecord c (fibre_record meaning f fibre ZeroSuppression xs) (fibre_record meaning f fibre ZeroSuppression ys)
