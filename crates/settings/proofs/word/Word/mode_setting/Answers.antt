-- A word of kind 1: its unused bits, then its mode.
-- Assumes nothing.
use Rattle.std.proofs.Common.{sym, ◌∙◌, arith}
use Rattle.terms.specs.declared.refusal.Refusal.TheVariants.{UnknownMode}
use Rattle.settings.specs.Words.{decoded}
use Rattle.settings.proofs.Decoding.{refused, mode_unused, mode_unknown, mode_taken}
use Rattle.settings.proofs.word.Word.mode_setting.Goals as goal

pub returns-then-bits-ne0 : goal.returns-then-bits-ne0
returns-then-bits-ne0 c = sym (mode_unused c.args.self.0 c.requires (omega arith))

pub returns-in_err-mode : goal.returns-in_err-mode
returns-in_err-mode c =
    refused c.from_residual.result (decoded c.args.self.0) c.in_err-mode.field-0.0 UnknownMode
    c.from_residual.ensures.1 c.in_err-mode.ensures.1
    (mode_unknown c.args.self.0 c.requires (omega arith) (rw c.bits-2.ensures at c.in_err-mode.ensures.0))

pub returns : goal.returns
returns c = mode_taken c.args.self.0 c.in_ok-mode.mode c.requires (omega arith) (c.in_ok-mode.ensures ∙ c.bits-2.ensures)
