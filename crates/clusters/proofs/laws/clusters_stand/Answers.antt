use Rattle.clusters.proofs.Hits.{belongs_by_hits}
use Rattle.clusters.proofs.Longests.{clusters_are_longest_runs}
use Rattle.clusters.proofs.Spacing.{clusters_in_place, at_most_130_bytes}
use Rattle.clusters.proofs.laws.clusters_stand.Goals as goal

pub returns : goal.returns
returns c = (belongs_by_hits, clusters_are_longest_runs, clusters_in_place, at_most_130_bytes)
