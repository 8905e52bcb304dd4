-- Each setting's word, which stands for it.
-- Assumes nothing.
use Rattle.std.proofs.Common.{rules}
use Rattle.settings.specs.declared.setting.Setting.TheVariants as settings
use Rattle.settings.proofs.Roundtrip.{encodes_as, mode_word, tick_word, pedestal_word, thresholds_word, rank_word}
use Rattle.settings.proofs.word.U32FromSetting.from.Goals as goal

pub returns-in-Mode : goal.returns-in-Mode
returns-in-Mode c = encodes_as (settings.Mode c.in-Mode.mode) c.in-Mode.is (search rules) (mode_word c.in-Mode.mode)

pub returns-in-Tick : goal.returns-in-Tick
returns-in-Tick c =
    encodes_as (settings.Tick c.in-Tick.fibre c.in-Tick.enable c.in-Tick.complement c.in-Tick.threshold) c.in-Tick.is (search rules)
    (tick_word c.in-Tick.fibre c.in-Tick.enable c.in-Tick.complement c.in-Tick.threshold)

pub returns-in-Pedestal : goal.returns-in-Pedestal
returns-in-Pedestal c =
    encodes_as (settings.Pedestal c.in-Pedestal.fibre c.in-Pedestal.strip c.in-Pedestal.valid c.in-Pedestal.pedestal) c.in-Pedestal.is (search rules)
    (pedestal_word c.in-Pedestal.fibre c.in-Pedestal.strip c.in-Pedestal.valid c.in-Pedestal.pedestal (search rules))

pub returns-in-Thresholds : goal.returns-in-Thresholds
returns-in-Thresholds c =
    encodes_as (settings.Thresholds c.in-Thresholds.fibre c.in-Thresholds.strip c.in-Thresholds.thresholds) c.in-Thresholds.is (search rules)
    (thresholds_word c.in-Thresholds.fibre c.in-Thresholds.strip c.in-Thresholds.thresholds (search rules) (search rules) (search rules))

pub returns-in-Rank : goal.returns-in-Rank
returns-in-Rank c =
    encodes_as (settings.Rank c.in-Rank.fibre c.in-Rank.side c.in-Rank.rank) c.in-Rank.is (search rules)
    (rank_word c.in-Rank.fibre c.in-Rank.side c.in-Rank.rank (search rules))
