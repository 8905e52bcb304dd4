-- Setting words: the word of each setting, and the setting that a word stands for.
-- Assumes nothing.
use Rattle.std.specs.Prelude.{◌≡◌, ℕ, ◌+◌, ◌*◌, ◌/◌, ◌^◌, Bool, true, false, cond, [], ◌∷◌, Some, None, Ok, Err, Result, IfOk, ◌==◌, nat_lt, slice_index_or, refl}
use Rattle.std.proofs.Common.{lit<}
use Rattle.std.proofs.lemmas.Bool.{ltb-true}
use Rattle.std.proofs.lemmas.Nat.{mod_below}
use Rattle.terms.specs.declared.refusal.Refusal.{Refusal}
use Rattle.terms.specs.declared.fibre.Fibre.{Fibre}
use Rattle.terms.specs.declared.pair.Side.{Side}
use Rattle.terms.specs.declared.pair.Side.TheVariants as sides
use Rattle.terms.specs.declared.enable.Enable.{Enable}
use Rattle.terms.specs.declared.enable.Enable.TheVariants as enables
use Rattle.terms.specs.Terms.{enable_number, side_number}
use Rattle.settings.specs.declared.mode.Mode.{Mode}
use Rattle.settings.specs.declared.mode.Mode.TheVariants.{ZeroSuppression, ProcessedRaw, VirginRaw}
use Rattle.settings.specs.declared.parts.Pedestal.{Pedestal}
use Rattle.settings.specs.declared.parts.Thresholds.{Thresholds}
use Rattle.settings.specs.declared.parts.TickThreshold.{TickThreshold}
use Rattle.settings.specs.declared.setting.Setting.{Setting}
use Rattle.settings.specs.declared.setting.Setting.TheVariants as settings
use Rattle.settings.specs.Fields.{bits, flag, bit, kind, fibre_field, mode_field, thresh1_field, thresh2_field}
use Rattle.settings.specs.Modes.{mode_number}
use Rattle.settings.specs.Order.{in_order}
use Rattle.settings.specs.Questions.{refusal}

-- the number of a setting's kind
abbrev pub kind_number : Setting → ℕ
kind_number (settings.Mode mode) = 1
kind_number (settings.Tick fibre enable complement threshold) = 2
kind_number (settings.Pedestal fibre strip valid pedestal) = 3
kind_number (settings.Thresholds fibre strip thresholds) = 4
kind_number (settings.Rank fibre side rank) = 5

-- what stands below a setting's kind: its fibre, and then its own fields, from the highest bit down
abbrev pub fields_of : Setting → ℕ
fields_of (settings.Mode mode) = mode_number mode
fields_of (settings.Tick fibre enable complement threshold) =
    fibre.index * 2 ^ 24 + enable_number enable * 2 ^ 6 + bit complement * 2 ^ 5 + threshold.value
fields_of (settings.Pedestal fibre strip valid pedestal) =
    fibre.index * 2 ^ 24 + strip * 2 ^ 16 + bit valid * 2 ^ 10 + pedestal.value
fields_of (settings.Thresholds fibre strip thresholds) =
    fibre.index * 2 ^ 24 + strip * 2 ^ 16 + thresholds.thresh2 * 2 ^ 8 + thresholds.thresh1
fields_of (settings.Rank fibre side rank) = fibre.index * 2 ^ 24 + side_number side * 2 ^ 16 + rank

-- the word of a setting
abbrev pub word_of : Setting → ℕ
word_of setting = kind_number setting * 2 ^ 28 + fields_of setting

-- the mode of a number; no word that is taken has another number than these
abbrev pub mode_from : ℕ → Mode
mode_from n = cond (n == 10) ZeroSuppression (cond (n == 18) ProcessedRaw VirginRaw)

-- the enable of a number 0 to 3
abbrev pub enable_from : ℕ → Enable
enable_from n = slice_index_or (enables.Neither ∷ enables.Right ∷ enables.Left ∷ enables.Both ∷ []) n enables.Neither

-- the side of a bit: 1 is right
abbrev pub side_from : Bool → Side
side_from b = cond b sides.Right sides.Left

-- the fibre of a number below 12; no word that is taken has another number
abbrev pub fibre_if : (n : ℕ) (below : Bool) → nat_lt n 12 ≡ below → Fibre
fibre_if n true e = record { index = n; below = ltb-true n 12 e }
fibre_if n false e = record { index = 0; below = lit< tt }

abbrev pub fibre_from : ℕ → Fibre
fibre_from n = fibre_if n (nat_lt n 12) refl

-- two thresholds in order; no word that is taken has others
abbrev pub thresholds_if : (thresh1 thresh2 : ℕ) (ordered : Bool) → in_order thresh1 thresh2 ≡ ordered → Thresholds
thresholds_if thresh1 thresh2 true e = record { thresh1 = thresh1; thresh2 = thresh2; ordered = e }
thresholds_if thresh1 thresh2 false e = record { thresh1 = 255; thresh2 = 255; ordered = refl }

abbrev pub thresholds_from : ℕ → ℕ → Thresholds
thresholds_from thresh1 thresh2 = thresholds_if thresh1 thresh2 (in_order thresh1 thresh2) refl

-- the tick threshold of a word, its bits 4 to 0
abbrev pub threshold_from : ℕ → TickThreshold
threshold_from word = record { value = bits 4 0 word; small = mod_below (word / 2 ^ 0) 32 (lit< tt) }

-- the pedestal of a word, its bits 9 to 0
abbrev pub pedestal_from : ℕ → Pedestal
pedestal_from word = record { value = bits 9 0 word; small = mod_below (word / 2 ^ 0) 1024 (lit< tt) }

-- the setting of each kind whose fields a word has
abbrev pub mode_setting : ℕ → Setting
mode_setting word = settings.Mode (mode_from (mode_field word))

abbrev pub tick_setting : ℕ → Setting
tick_setting word = settings.Tick (fibre_from (fibre_field word)) (enable_from (bits 7 6 word)) (flag 5 word) (threshold_from word)

abbrev pub pedestal_setting : ℕ → Setting
pedestal_setting word = settings.Pedestal (fibre_from (fibre_field word)) (bits 23 16 word) (flag 10 word) (pedestal_from word)

abbrev pub thresholds_setting : ℕ → Setting
thresholds_setting word =
    settings.Thresholds (fibre_from (fibre_field word)) (bits 23 16 word) (thresholds_from (thresh1_field word) (thresh2_field word))

abbrev pub rank_setting : ℕ → Setting
rank_setting word = settings.Rank (fibre_from (fibre_field word)) (side_from (flag 16 word)) (bits 7 0 word)

-- the setting that a word stands for, by its kind
unfoldable pub setting_of : ℕ → Setting
setting_of word =
    cond (kind word == 1) (mode_setting word)
    (cond (kind word == 2) (tick_setting word)
    (cond (kind word == 3) (pedestal_setting word)
    (cond (kind word == 4) (thresholds_setting word) (rank_setting word))))

-- what becomes of a word: the setting that it stands for, or the first question that is answered no
unfoldable pub decoded : ℕ → Result Setting Refusal
decoded word = elim (refusal word) [ Some e ↦ Err e | None ↦ Ok (setting_of word) ]

-- the answer is what becomes of a word, and a word that is taken is the word of the setting that it stands for
pub record Decodes (word : ℕ) (answer : Result Setting Refusal) : Type 0 where
  pub means : answer ≡ decoded word
  pub encodes : IfOk answer (λ setting. word_of setting ≡ word)

-- a word is that of a setting, and stands for it
pub record Encodes (setting : Setting) (word : ℕ) : Type 0 where
  pub means : word ≡ word_of setting
  pub decodes : decoded word ≡ Ok setting
