use Rattle.std.proofs.Common.{◌≡◌, ◌+◌, ◌-◌, take, drop, ◌∙◌, arith}
use Rattle.layout.proofs.Writing.{cluster_written}
use Rattle.layout.proofs.suppressed.write.write_cluster.Goals as goal

pub returns-clause-written : goal.returns-clause-written
returns-clause-written c =
    let values = c.args.values.now in
    let count : c.from-first.result + c.from.result - c.from-first.result ≡ c.args.run.strips = omega arith in
    let first : c.from-first.result ≡ c.args.run.address = c.from-first.ensures in
    cluster_written c.args.out.now values c.args.at _ c.args.run c.copy_from_slice.new.self c.told-values c.requires.on_fibre c.requires.room
    (c.copy_from_slice.ensures.after ∙ (λ i. take (count i) (drop (first i) values))) (omega arith)
