use Rattle.std.proofs.Common.{◌≡◌, ◌+◌, drop}
use Rattle.std.specs.List.{flat_map}
use Rattle.layout.specs.Event.{cluster_bytes}
use Rattle.layout.specs.Contents.{cluster_on}
use Rattle.layout.specs.Writing.{over}
use Rattle.layout.specs.PlacesLemmas.{taken}
use Rattle.layout.proofs.suppressed.Suppressed.write_clusters.Given as goal

-- with the clusters that are left, the buffer would be as it is to be, and they would end at its end
abbrev pub invariant-loop-run : goal.invariant-loop-run
invariant-loop-run l =
    (over l.out l.at (flat_map (λ r. cluster_bytes (cluster_on l.self.values r)) (drop l.run-index l.runs))
    ≡ over l.initial.out 4 (flat_map (λ r. cluster_bytes (cluster_on l.self.values r)) l.runs))
    × (l.at + taken (drop l.run-index l.runs) ≡ 4 + taken l.runs)
