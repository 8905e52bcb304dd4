use Rattle.std.proofs.Common.{◌^◌, ◌<◌, length, inl, arith, rules}
use Rattle.reader.proofs.ItemLaws.{clusters_few}
use Rattle.reader.proofs.record.Record.cluster_count.Goals as goal

pub count-requires-clause-fits : goal.count-requires-clause-fits
count-requires-clause-fits c =
    let xs = c.in_ok-clusters.clusters.left.now in
    let small : length xs < 2 ^ 64 = search rules in
    inl (omega (arith, clusters_few xs, small))
