use Rattle.std.proofs.Common.{arith, of_calls}
use Rattle.std.proofs.lemmas.Result.{err_from_is_err_and}
use Rattle.card_model.specs.Readout.{oldest_bytes}
use Rattle.card.proofs.Carrying.{answered_fetch, fetched_says, refused_says}
use Rattle.card.proofs.card.Card.answer_fetch.Goals as goal

pub returns-clause-step : goal.returns-clause-step
returns-clause-step g c =
    answered_fetch _ _ _ c.args.long c.args.at _ c.args.bytes.now _ (oldest_bytes c.args.self.now.state.readout) c.fetch.result _
    (omega arith) (omega arith) c.fetch.auto.buffer c.fetch.ensures.step c.fetch.ensures.written
    (fetched_says c.fetch.result _ c.args.at c.in_ok-length.ensures.cases)

pub returns-in_err-length-clause-step : goal.returns-in_err-length-clause-step
returns-in_err-length-clause-step g c =
    let p = err_from_is_err_and c.from_residual.result c.from_residual.ensures.1 in
    rw (p.1, p.2)
    (answered_fetch _ _ _ c.args.long c.args.at _ c.args.bytes.now _ (oldest_bytes c.args.self.now.state.readout) c.fetch.result _
    (omega arith) (omega arith) c.fetch.auto.buffer c.fetch.ensures.step c.fetch.ensures.written
    (refused_says c.fetch.result _ c.args.at _ (λ e h. search of_calls) c.in_err-length.ensures.cases))
