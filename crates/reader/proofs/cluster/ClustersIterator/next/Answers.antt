use Rattle.std.proofs.Common.{◌≡◌, ◌≤◌, length, ◌∷◌, slice_index_or, drop, ap, rules}
use Rattle.std.proofs.lemmas.List.{take_rest}
use Rattle.reader.specs.Parts.{cluster_value, clusters_left}
use Rattle.reader.proofs.ItemLaws.{one_cluster}
use Rattle.reader.proofs.cluster.ClustersIterator.next.Goals as goal
use Rattle.reader.proofs.cluster.ClustersIterator.next.Goals.{After-split_at}

-- the cluster that is given, and those that are left
given : (c : goal.After-split_at) → clusters_left c.args.self.now ≡ cluster_value (record { address = slice_index_or c.args.self.now.left.now 0 0; values = c.split_at.result.0 }) ∷ clusters_left (record { left = c.split_at.result.1 })
given c =
    let xs = c.args.self.now.left.now in
    let two : 2 ≤ length xs = search rules in
    let fits : c.from-strips.result ≤ length (drop 2 xs) = rw take_rest at c.if-data-strips.false in
    one_cluster xs _ _ c.from-strips.result two c.from-strips.ensures fits (rw take_rest at c.split_at.ensures.front) (rw take_rest at c.split_at.ensures.back)

pub returns-clause-steps : goal.returns-clause-steps
returns-clause-steps c = given (goal.at.returns-clause-steps c).After-split_at

pub returns-clause-goes : goal.returns-clause-goes
returns-clause-goes c = let h = ap length (given (goal.at.returns-clause-goes c).After-split_at) in search rules
