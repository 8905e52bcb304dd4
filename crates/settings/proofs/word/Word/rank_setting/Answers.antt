-- A word of kind 5: its fibre, its unused bits, then its fields.
-- Assumes nothing.
use Rattle.std.proofs.Common.{refl, sym, arith}
use Rattle.settings.specs.Fields.{fibre_field}
use Rattle.settings.proofs.Decoding.{fibre_refused, rank_unused_high, rank_unused_low, rank_taken}
use Rattle.settings.proofs.Ranges.{within}
use Rattle.settings.proofs.word.Word.rank_setting.Goals as goal
use Rattle.settings.proofs.word.Word.rank_setting.Goals.{then-bits-ne0-via-then-bits-ne0, then-bits-ne0-via-else-bits-ne0+then-bits-ne0-2}

pub returns-in_err-fibre : goal.returns-in_err-fibre
returns-in_err-fibre c =
    fibre_refused c.args.self.0 5 c.from_residual.result c.in_err-fibre.field-0.0 c.requires (refl, refl) c.from_residual.ensures.1 c.in_err-fibre.ensures.refused

pub returns-then-bits-ne0 : goal.returns-then-bits-ne0
returns-then-bits-ne0 c =
    let f = within c.in_ok-fibre.fibre (fibre_field c.args.self.0) c.in_ok-fibre.ensures.taken in
    elim c.then-bits-ne0.branch [
      | then-bits-ne0-via-then-bits-ne0 w ↦ sym (rank_unused_high c.args.self.0 c.requires f (omega (arith, w.if-bits-ne0.true)))
      | then-bits-ne0-via-else-bits-ne0+then-bits-ne0-2 w ↦ sym (rank_unused_low c.args.self.0 c.requires f (omega (arith, w.if-bits-ne0-2.true, w.bits-else-bits-ne0.ensures)))
    ]

pub returns : goal.returns
returns c =
    rank_taken c.args.self.0 c.requires c.in_ok-fibre.ensures.taken (omega arith) (omega arith)
    c.side.ensures c.bits-2.ensures
