use Rattle.std.proofs.Common.{◌≡◌, ◌+◌, ◌-◌, suc, Some, sym, ap, ◌∙◌, arith}
use Rattle.std.proofs.ByRecursion.{All-from_get_or}
use Rattle.std.proofs.lemmas.Result.{err_from_is_err_and}
use Rattle.layout.specs.Event.{Byte}
use Rattle.reader.specs.Walks.{ends}
use Rattle.reader.proofs.event.reading.read_records.Goals as goal

pub returns-in_err-kind-clause-end : goal.returns-in_err-kind-clause-end
returns-in_err-kind-clause-end c =
    let p = err_from_is_err_and c.from_residual.result c.from_residual.ensures.1 in
    rw (p.1, p.2) (sym (c.in_err-kind.ensures.stopped 11))

pub loop-fibre-init : goal.loop-fibre-init
loop-fibre-init c = let p = c.in_ok-kind.ensures.passed in sym (p.others 11)

pub returns-in_err-read_next-clause-end : goal.returns-in_err-read_next-clause-end
returns-in_err-read_next-clause-end c =
    let p = err_from_is_err_and c.from_residual-in_err-read_next.result c.from_residual-in_err-read_next.ensures.1 in
    let i = c.loop-fibre._fibre in
    let more : 12 - i ≡ suc (11 - i) = omega arith in
    rw (p.1, p.2) (sym (c.in_err-read_next.ensures.stopped (11 - i)) ∙ (ap (λ n. ends n (Some c.in_ok-kind.kind) c.loop-fibre.records) (sym more) ∙ c.loop-fibre.invariant))

pub loop-fibre-preserved : goal.loop-fibre-preserved
loop-fibre-preserved c =
    let p = c.in_ok-read_next.ensures.passed in
    let i = c.loop-fibre._fibre in
    let more : 12 - i ≡ suc (12 - (i + 1)) = omega arith in
    let next = p.others (12 - (i + 1)) in
    let same = p.same c.in_ok-kind.kind cc in
    rw same at (sym next) ∙ (ap (λ n. ends n (Some c.in_ok-kind.kind) c.loop-fibre.records) (sym more) ∙ c.loop-fibre.invariant)

pub returns-clause-bytes : goal.returns-clause-bytes
returns-clause-bytes c = All-from_get_or Byte c.args.input.now 0 (λ i h. (c.type_inv.input i).fits)
