use Rattle.std.proofs.Common.{◌≡◌, length, None}
use Rattle.reader.specs.Questions.{verdict, read_clusters}
use Rattle.reader.proofs.cluster.read_clusters.Given as goal

-- the clusters that are left come to what all of them come to
abbrev pub invariant-loop-clusters : goal.invariant-loop-clusters
invariant-loop-clusters l =
    verdict (read_clusters 0 l.clusters.before l.clusters.left.at l.clusters.left.bytes.now) ≡ verdict (read_clusters 0 None l.body.at l.body.bytes.now)

abbrev pub decreases-loop-clusters : goal.decreases-loop-clusters
decreases-loop-clusters l = length l.clusters.left.bytes.now
