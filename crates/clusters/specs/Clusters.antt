-- Where the clusters of a fibre lie: the longest runs of strips that belong, chip by chip.
-- Assumes nothing.
use Rattle.std.specs.Prelude.{ℕ, ◌+◌, ◌-◌, Bool, true, false, cond, List, [], ◌∷◌, ◌++◌, take, drop, ◌==◌}
use Rattle.layout.specs.declared.run.Run.{Run}
use Rattle.clusters.specs.declared.reached.Reached.{Reached}
use Rattle.clusters.specs.Patterns.{belonging}

-- a run of n strips that ends before a strip, if it has any, and the runs behind it
abbrev pub ended : ℕ → ℕ → List Run → List Run
ended at n rest = cond (n == 0) rest (record { address = at - n; strips = n } ∷ rest)

-- the longest runs of strips that belong, from a strip on, where the n strips before it belong
unfoldable pub runs_from : ℕ → ℕ → List Bool → List Run
runs_from at n [] = ended at n []
runs_from at n (true ∷ more) = runs_from (at + 1) (n + 1) more
runs_from at n (false ∷ more) = ended at n (runs_from (at + 1) 0 more)

-- the clusters of a chip whose first strip has an address
abbrev pub chip_runs : ℕ → List Reached → List Run
chip_runs first strips = runs_from first 0 (belonging strips)

-- the clusters of a fibre: those of the left chip, strips 0 to 127, then those of the right chip, strips 128 to 255
unfoldable pub cluster_runs : List Reached → List Run
cluster_runs strips = chip_runs 0 (take 128 strips) ++ chip_runs 128 (drop 128 strips)
