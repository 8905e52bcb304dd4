use Rattle.std.proofs.Common.{refl}
use Rattle.strips.specs.Fibre.{numbers}
use Rattle.card.proofs.Clocking.{advanced_as}
use Rattle.card.proofs.inner.Core.advance.Goals as goal

pub returns : goal.returns
returns c =
    advanced_as c.args.self.now c.args.capture _ _ (numbers c.args.samples.now) _ refl refl c.capture_samples.ensures c.within.ensures
