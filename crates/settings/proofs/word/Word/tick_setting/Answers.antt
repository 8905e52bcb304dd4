-- A word of kind 2: its fibre, its unused bits, then its fields.
-- Assumes nothing.
use Rattle.std.proofs.Common.{refl, sym, arith}
use Rattle.settings.proofs.Decoding.{fibre_refused, tick_unused, tick_taken}
use Rattle.settings.proofs.Ranges.{within}
use Rattle.settings.proofs.word.Word.tick_setting.Goals as goal

pub returns-in_err-fibre : goal.returns-in_err-fibre
returns-in_err-fibre c =
    fibre_refused c.args.self.0 2 c.from_residual.result c.in_err-fibre.field-0.0 c.requires (refl, refl) c.from_residual.ensures.1 c.in_err-fibre.ensures.refused

pub returns-then-bits-ne0 : goal.returns-then-bits-ne0
returns-then-bits-ne0 c =
    sym (tick_unused c.args.self.0 c.requires (within c.in_ok-fibre.fibre _ c.in_ok-fibre.ensures.taken) (omega arith))

pub returns : goal.returns
returns c =
    tick_taken c.args.self.0 c.requires c.in_ok-fibre.ensures.taken (omega arith)
    c.enable.ensures c.flag.ensures c.bits-2.ensures
