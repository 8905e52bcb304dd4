-- A word of kind 4: its fibre, then its thresholds.
-- Assumes nothing.
use Rattle.std.proofs.Common.{refl, ◌∙◌}
use Rattle.terms.specs.declared.refusal.Refusal.TheVariants.{ThresholdOrder}
use Rattle.settings.specs.Words.{decoded}
use Rattle.settings.proofs.Decoding.{refused, fibre_refused, thresholds_disordered, thresholds_taken}
use Rattle.settings.proofs.Ranges.{within}
use Rattle.settings.proofs.word.Word.thresholds_setting.Goals as goal

pub returns-in_err-fibre : goal.returns-in_err-fibre
returns-in_err-fibre c =
    fibre_refused c.args.self.0 4 c.from_residual.result c.in_err-fibre.field-0.0 c.requires (refl, refl) c.from_residual.ensures.1 c.in_err-fibre.ensures.refused

pub returns-in_err-thresholds : goal.returns-in_err-thresholds
returns-in_err-thresholds c =
    refused c.from_residual-in_err-thresholds.result (decoded c.args.self.0) c.in_err-thresholds.field-0.0 ThresholdOrder
    c.from_residual-in_err-thresholds.ensures.1 c.in_err-thresholds.ensures.refused.1
    (thresholds_disordered c.args.self.0 c.requires (within c.in_ok-fibre.fibre _ c.in_ok-fibre.ensures.taken)
    (rw (c.bits.ensures, c.bits-2.ensures) at c.in_err-thresholds.ensures.refused.0))

pub returns : goal.returns
returns c =
    thresholds_taken c.args.self.0 c.requires c.in_ok-fibre.ensures.taken c.strip.ensures
    (c.in_ok-thresholds.ensures.taken.0 ∙ c.bits.ensures) (c.in_ok-thresholds.ensures.taken.1 ∙ c.bits-2.ensures)
