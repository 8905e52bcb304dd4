-- The numbers of the modes.
-- Assumes nothing.
use Rattle.std.specs.Prelude.{◌≡◌, ◌≢◌, ℕ, Result, MatchResult}
use Rattle.terms.specs.declared.refusal.Refusal.{Refusal}
use Rattle.terms.specs.declared.refusal.Refusal.TheVariants.{UnknownMode}
use Rattle.settings.specs.declared.mode.Mode.{Mode}
use Rattle.settings.specs.declared.mode.Mode.TheVariants.{ZeroSuppression, ProcessedRaw, VirginRaw}

-- the number that stands for a mode in a setting word
abbrev pub mode_number : Mode → ℕ
mode_number ZeroSuppression = 10
mode_number ProcessedRaw = 18
mode_number VirginRaw = 6

-- the answer is the mode that has a number, or a refusal where no mode has it
abbrev pub ModeOf : ℕ → Result Mode Refusal → Type 0
ModeOf number answer =
    MatchResult answer (λ mode. mode_number mode ≡ number) (λ e. ((mode : Mode) → mode_number mode ≢ number) × (e ≡ UnknownMode))
