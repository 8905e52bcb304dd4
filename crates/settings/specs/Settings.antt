-- The settings of a card: what a card that was just made has, and what each setting changes.
-- Assumes nothing.
use Rattle.std.specs.Prelude.{ℕ, Bool, false, replicate, slice_index_or, slice_set}
use Rattle.terms.specs.declared.enable.Enable.{Enable}
use Rattle.terms.specs.declared.enable.Enable.TheVariants.{Neither}
use Rattle.terms.specs.declared.fibre.Fibre.{Fibre}
use Rattle.terms.specs.declared.pair.Pair.{Pair}
use Rattle.terms.specs.declared.pair.Side.{Side}
use Rattle.terms.specs.declared.pair.Side.TheVariants as sides
use Rattle.settings.specs.declared.mode.Mode.TheVariants.{ZeroSuppression}
use Rattle.settings.specs.declared.setting.Setting.{Setting}
use Rattle.settings.specs.declared.setting.Setting.TheVariants as settings
use Rattle.settings.specs.declared.card.CardSettings.{CardSettings}
use Rattle.settings.specs.declared.fibre.FibreSettings.{FibreSettings}
use Rattle.settings.specs.declared.strip.StripSettings.{StripSettings}

-- a strip's settings in a card that was just made
abbrev pub fresh_strip : StripSettings
fresh_strip = record { valid = false; pedestal = 0; thresh1 = 255; thresh2 = 255 }

-- a fibre's settings in a card that was just made
abbrev pub fresh_fibre : FibreSettings
fresh_fibre =
    record {
      enable = Neither;
      complement = false;
      threshold = 16;
      strips = replicate 256 fresh_strip;
      ranks = record { left = 128; right = 128 };
    }

-- the settings of a card that was just made
abbrev pub fresh_card : CardSettings
fresh_card = record { mode = ZeroSuppression; fibres = replicate 12 fresh_fibre }

-- a fibre with another enable, complement flag and tick threshold
abbrev pub with_tick : Enable → Bool → ℕ → FibreSettings → FibreSettings
with_tick enable complement threshold fibre =
    record {
      enable = enable;
      complement = complement;
      threshold = threshold;
      strips = fibre.strips;
      ranks = fibre.ranks;
    }

-- past the last strip stands nothing that is ever read
abbrev pub no_strip : StripSettings
no_strip = record { valid = false; pedestal = 0; thresh1 = 0; thresh2 = 0 }

-- the settings of one strip of a fibre
abbrev pub of_strip : FibreSettings → ℕ → StripSettings
of_strip fibre strip = slice_index_or fibre.strips strip no_strip

-- a fibre with one strip changed
abbrev pub at_strip : ℕ → (StripSettings → StripSettings) → FibreSettings → FibreSettings
at_strip strip change fibre =
    record {
      enable = fibre.enable;
      complement = fibre.complement;
      threshold = fibre.threshold;
      strips = slice_set fibre.strips strip (change (of_strip fibre strip));
      ranks = fibre.ranks;
    }

-- a strip with another valid flag and pedestal
abbrev pub strip_with_pedestal : Bool → ℕ → StripSettings → StripSettings
strip_with_pedestal valid pedestal old = record { valid = valid; pedestal = pedestal; thresh1 = old.thresh1; thresh2 = old.thresh2 }

-- a fibre with another valid flag and pedestal of one strip
abbrev pub with_pedestal : ℕ → Bool → ℕ → FibreSettings → FibreSettings
with_pedestal strip valid pedestal fibre =
    at_strip strip (strip_with_pedestal valid pedestal) fibre

-- a strip with other thresholds
abbrev pub strip_with_thresholds : ℕ → ℕ → StripSettings → StripSettings
strip_with_thresholds thresh1 thresh2 old = record { valid = old.valid; pedestal = old.pedestal; thresh1 = thresh1; thresh2 = thresh2 }

-- a fibre with other thresholds of one strip
abbrev pub with_thresholds : ℕ → ℕ → ℕ → FibreSettings → FibreSettings
with_thresholds strip thresh1 thresh2 fibre =
    at_strip strip (strip_with_thresholds thresh1 thresh2) fibre

-- a pair with another value on one side
abbrev pub with_part : Side → ℕ → Pair ℕ → Pair ℕ
with_part sides.Left value pair = record { left = value; right = pair.right }
with_part sides.Right value pair = record { left = pair.left; right = value }

-- a fibre with another rank setting of one chip
abbrev pub with_rank : Side → ℕ → FibreSettings → FibreSettings
with_rank side rank fibre =
    record {
      enable = fibre.enable;
      complement = fibre.complement;
      threshold = fibre.threshold;
      strips = fibre.strips;
      ranks = with_part side rank fibre.ranks;
    }

-- past the twelfth fibre stands nothing that is ever read
unfoldable pub no_fibre : FibreSettings
no_fibre = fresh_fibre

-- the settings of one fibre of a card
abbrev pub of_fibre : CardSettings → ℕ → FibreSettings
of_fibre card at = slice_index_or card.fibres at no_fibre

-- a card with one fibre changed
abbrev pub at_fibre : Fibre → (FibreSettings → FibreSettings) → CardSettings → CardSettings
at_fibre fibre change card =
    record { mode = card.mode; fibres = slice_set card.fibres fibre.index (change (of_fibre card fibre.index)) }

-- a card's settings once a setting is carried out
unfoldable pub applied : Setting → CardSettings → CardSettings
applied (settings.Mode mode) card = record { mode = mode; fibres = card.fibres }
applied (settings.Tick fibre enable complement threshold) card = at_fibre fibre (with_tick enable complement threshold.value) card
applied (settings.Pedestal fibre strip valid pedestal) card = at_fibre fibre (with_pedestal strip valid pedestal.value) card
applied (settings.Thresholds fibre strip thresholds) card =
    at_fibre fibre (with_thresholds strip thresholds.thresh1 thresholds.thresh2) card
applied (settings.Rank fibre side rank) card = at_fibre fibre (with_rank side rank) card
