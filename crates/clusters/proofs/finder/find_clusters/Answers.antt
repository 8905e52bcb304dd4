use Rattle.std.proofs.Common.{◌≡◌, List, [], ◌++◌, length, take, drop, ap, ◌∙◌, arith, rules}
use Rattle.std.proofs.lemmas.List.{length-drop, take_all}
use Rattle.layout.specs.declared.run.Run.{Run}
use Rattle.layout.specs.Places.{spaced}
use Rattle.layout.specs.Contents.{listed}
use Rattle.clusters.specs.declared.reached.Reached.{Reached}
use Rattle.clusters.specs.Clusters.{chip_runs, cluster_runs}
use Rattle.clusters.proofs.Following.{spaced_front}
use Rattle.clusters.proofs.Spacing.{clusters_in_place}
use Rattle.clusters.proofs.finder.find_clusters.Goals as goal

-- the right chip's strips
right_part : (strips : List Reached) → length strips ≡ 256 → take 128 (drop 128 strips) ≡ drop 128 strips
right_part strips all = take_all 128 (drop 128 strips) (omega (arith, length-drop 128 strips))

-- the runs of the left chip and then those of the right one are all
both :
    (strips : List Reached) (none left : List Run) →
    length strips ≡ 256 →
    none ≡ [] →
    left ≡ none ++ chip_runs 0 (take 128 strips) →
    left ++ chip_runs 128 (take 128 (drop 128 strips)) ≡ cluster_runs strips
unfolding cluster_runs
both strips none left all e f =
    ap (λ rs. rs ++ chip_runs 128 (take 128 (drop 128 strips))) (f ∙ ap (λ rs. rs ++ chip_runs 0 (take 128 strips)) e)
    ∙ ap (λ part. chip_runs 0 (take 128 strips) ++ chip_runs 128 part) (right_part strips all)

pub find_on_chip-requires-clause-in_place : goal.find_on_chip-requires-clause-in_place
unfolding cluster_runs
find_on_chip-requires-clause-in_place c =
    let strips = c.args.reached.now in
    let all : length strips ≡ 256 = search rules in
    ap (λ rs. spaced (rs ++ chip_runs 0 (take 128 strips))) c.new-runs.ensures
    ∙ spaced_front (chip_runs 0 (take 128 strips)) (chip_runs 128 (drop 128 strips)) (clusters_in_place strips all)

pub find_on_chip-requires-2-clause-in_place : goal.find_on_chip-requires-2-clause-in_place
find_on_chip-requires-2-clause-in_place c =
    let strips = c.args.reached.now in
    let all : length strips ≡ 256 = search rules in
    ap spaced (both strips (listed c.new-runs.result) (listed c.find_on_chip.new.runs) all c.new-runs.ensures c.find_on_chip.ensures)
    ∙ clusters_in_place strips all

pub returns : goal.returns
returns c =
    let strips = c.args.reached.now in
    let all : length strips ≡ 256 = search rules in
    c.find_on_chip-2.ensures
    ∙ both strips (listed c.new-runs.result) (listed c.find_on_chip.new.runs) all c.new-runs.ensures c.find_on_chip.ensures
