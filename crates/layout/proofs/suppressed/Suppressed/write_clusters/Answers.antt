use Rattle.std.proofs.Common.{◌≡◌, ◌+◌, ◌≤◌, length, get_or, sym, ap, ◌∙◌, arith}
use Rattle.std.specs.List.{flat_map}
use Rattle.std.proofs.lemmas.List.{drop_more}
use Rattle.layout.specs.Event.{cluster_bytes}
use Rattle.layout.specs.Contents.{cluster_on, listed}
use Rattle.layout.specs.Writing.{over}
use Rattle.layout.specs.PlacesLemmas.{taken}
use Rattle.layout.specs.ContentsLemmas.{clusters_taken, run_ends_at, values_on}
use Rattle.layout.proofs.Writing.{parts_more, parts_all, joined_map}
use Rattle.layout.proofs.suppressed.Suppressed.write_clusters.Goals as goal

pub write_cluster-at-requires : goal.write_cluster-at-requires
write_cluster-at-requires c =
    let s = c.args.self.now in
    let runs = c.as_slice-runs.result.now in
    let next = ap taken (drop_more runs c.loop-run.run-index (record { address = 0; strips = 0 }) c.loop-run-test.true) in
    let same = ap taken c.as_slice-runs.ensures in
    record {
      on_fibre = run_ends_at s runs c.loop-run.run-index (record { address = 0; strips = 0 }) c.as_slice-runs.ensures c.loop-run-test.true;
      room = omega (arith, c.loop-run.invariant.1, clusters_taken s);
    }

pub loop-run-preserved : goal.loop-run-preserved
loop-run-preserved c =
    let s = c.args.self.now in
    let runs = c.as_slice-runs.result.now in
    let i = c.loop-run.run-index in
    let run = get_or runs i (record { address = 0; strips = 0 }) in
    let long = values_on s.values run s.all (run_ends_at s runs i (record { address = 0; strips = 0 }) c.as_slice-runs.ensures c.loop-run-test.true) in
    let more = ap taken (drop_more runs i (record { address = 0; strips = 0 }) c.loop-run-test.true) in
    let same = ap taken c.as_slice-runs.ensures in
    let room : c.loop-run.at + length (cluster_bytes (cluster_on s.values run)) ≤ length c.loop-run.out =
    omega (arith, c.loop-run.invariant.1, clusters_taken s) in
    let next : c.write_cluster-at.result ≡ c.loop-run.at + length (cluster_bytes (cluster_on s.values run)) =
    omega (arith, c.write_cluster-at.ensures.behind) in (
      parts_more (λ r. cluster_bytes (cluster_on s.values r)) runs i c.loop-run.at c.write_cluster-at.result (record { address = 0; strips = 0 })
          c.loop-run.out c.write_cluster-at.new.out _ c.loop-run-test.true room next c.write_cluster-at.ensures.written c.loop-run.invariant.0,
      omega (arith, c.loop-run.invariant.1, c.write_cluster-at.ensures.behind),
    )

pub returns : goal.returns
returns c =
    let s = c.args.self.now in
    let runs = c.as_slice-runs.result.now in
    parts_all (λ r. cluster_bytes (cluster_on s.values r)) runs c.loop-run.run-index c.loop-run.at c.loop-run.out _ c.loop-run-test.false c.loop-run.invariant.0
    ∙ ap (λ rs. over c.args.out.now 4 (flat_map (λ r. cluster_bytes (cluster_on s.values r)) rs)) c.as_slice-runs.ensures
    ∙ ap (over c.args.out.now 4) (sym (joined_map cluster_bytes (cluster_on s.values) (listed s.runs)))
