use Rattle.std.proofs.Common.{◌≤◌, length, arith}
use Rattle.std.specs.List.{flat_map}
use Rattle.layout.specs.Event.{cluster_bytes}
use Rattle.layout.specs.Contents.{clusters}
use Rattle.layout.proofs.Writing.{modes_written}
use Rattle.layout.proofs.suppressed.Suppressed.write.Goals as goal

pub returns : goal.returns
returns c =
    let s = c.args.self.now in
    let room : 4 ≤ length c.args.out.now = omega (arith, c.length-length.ensures, c.if-out-length.false) in (
      c.length-length.ensures,
      omega (arith, c.length-length.ensures, c.if-out-length.false),
      modes_written c.args.out.now c.write_modes.new.out c.write_clusters.new.out s.modes
          (flat_map cluster_bytes (clusters s)) room c.write_modes.ensures c.write_clusters.ensures,
    )
