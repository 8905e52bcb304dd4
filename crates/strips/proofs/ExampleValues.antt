-- Each example computes.
-- Assumes nothing.
use Rattle.std.proofs.Common.{refl}
use Rattle.clusters.specs.Patterns.{belongs}
use Rattle.clusters.specs.Clusters.{runs_from, cluster_runs}
use Rattle.strips.specs.Examples.{WorkedExamples}

pub examples : WorkedExamples
unfolding cluster_runs runs_from belongs
examples = ((refl, refl, refl, refl), (refl, refl, refl), (refl, refl, refl, refl), refl, refl)
