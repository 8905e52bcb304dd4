use Rattle.std.proofs.Common.{sym, ◌∙◌}
use Rattle.reader.proofs.Steps.{clusters_next}
use Rattle.reader.proofs.cluster.read_clusters.Goals as goal

pub loop-clusters-preserved : goal.loop-clusters-preserved
loop-clusters-preserved c =
    let p = c.in_ok-read_next.ensures.passed in
    let old = c.loop-clusters.clusters in
    let next = clusters_next old.before old.left.at old.left.bytes.now p.value p.read in
    rw (p.before, p.at, p.left) (sym next ∙ c.loop-clusters.invariant)
