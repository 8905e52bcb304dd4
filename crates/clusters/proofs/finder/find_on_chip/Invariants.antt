use Rattle.std.proofs.Common.{◌≡◌, ◌≤◌, [], ◌∷◌, ◌++◌, drop}
use Rattle.std.specs.Iterator.Adapters.{enumerate_source, enumerate_count}
use Rattle.std.specs.Slice.Iter.{windows_rest, windows_size}
use Rattle.std.specs.Slice.ArrayWindows.{array_windows_parts}
use Rattle.layout.specs.Contents.{listed}
use Rattle.clusters.specs.Patterns.{nothing}
use Rattle.clusters.specs.Clusters.{chip_runs}
use Rattle.clusters.proofs.Following.{left}
use Rattle.clusters.proofs.finder.find_on_chip.Given as goal

-- the windows from the next strip on are left, and the runs found and those left are all of them
abbrev pub invariant-loop-n : goal.invariant-loop-n
invariant-loop-n l =
    let n = enumerate_count l.n-iterator in
    let windows = array_windows_parts (enumerate_source l.n-iterator) in
    record {
      can : (goal.iterator-loop-n).can_next l.n-iterator;
      finite : (goal.iterator-loop-n).is_finite l.n-iterator;
      of_five : windows_size windows ≡ 5;
      rest : windows_rest windows ≡ drop n ((nothing ∷ nothing ∷ l.chip) ++ nothing ∷ nothing ∷ []);
      on_chip : n ≤ 128;
      few : l.strips ≤ n;
      all : listed l.runs ++ left l.chip l.first n l.strips ≡ listed l.initial.runs ++ chip_runs l.first l.chip;
    }
