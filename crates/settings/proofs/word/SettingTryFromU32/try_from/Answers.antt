-- A word whose kind is none of 1 to 5 is refused, and any other goes by its kind.
-- Assumes nothing.
use Rattle.std.proofs.Common.{sym, arith}
use Rattle.settings.proofs.Decoding.{unknown}
use Rattle.settings.proofs.Roundtrip.{decodes_as}
use Rattle.settings.proofs.word.SettingTryFromU32.try_from.Goals as goal

pub returns-in-1 : goal.returns-in-1
returns-in-1 c = decodes_as c.args.word c.mode_setting.result (omega arith) c.mode_setting.ensures

pub returns-in-2 : goal.returns-in-2
returns-in-2 c = decodes_as c.args.word c.tick_setting.result (omega arith) c.tick_setting.ensures

pub returns-in-3 : goal.returns-in-3
returns-in-3 c = decodes_as c.args.word c.pedestal_setting.result (omega arith) c.pedestal_setting.ensures

pub returns-in-4 : goal.returns-in-4
returns-in-4 c = decodes_as c.args.word c.thresholds_setting.result (omega arith) c.thresholds_setting.ensures

pub returns-in-5 : goal.returns-in-5
returns-in-5 c = decodes_as c.args.word c.rank_setting.result (omega arith) c.rank_setting.ensures

pub returns-in_default : goal.returns-in_default
returns-in_default c = decodes_as c.args.word _ (omega arith) (sym (unknown c.args.word (omega arith)))
