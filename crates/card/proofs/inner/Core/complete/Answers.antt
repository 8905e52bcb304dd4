use Rattle.strips.specs.Fibre.{numbers}
use Rattle.card.proofs.Losing.{completed_as}
use Rattle.card.proofs.inner.Core.complete.Goals as goal

pub returns : goal.returns
returns g c =
    completed_as _ c.args.self.now _ _ (numbers c.args.samples.now) _ _ _ _ c.form_records.ensures c.capture_samples.ensures c.take_in.ensures
