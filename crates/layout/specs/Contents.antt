-- What the types that a writer takes hold, as contents of the layout.
-- Assumes nothing.
use Rattle.std.specs.Prelude.{◌≡◌, ℕ, false, List, [], ◌∷◌, ◌++◌, map, take, drop, Ok, Err, Result}
use Rattle.layout.specs.declared.run.Run.{Run}
use Rattle.layout.specs.declared.runs.Runs.{Runs}
use Rattle.layout.specs.declared.words.Words.{Words}
use Rattle.layout.specs.declared.suppressed.Suppressed.{Suppressed}
use Rattle.layout.specs.Places.{spaced}
use Rattle.layout.specs.Event.{Cluster, Content, suppressed, words}

-- the runs, in strip order
abbrev pub listed : Runs → List Run
listed r = r.list.items

-- a run was put behind the others; or it is out of place there, comes back, and nothing has changed
abbrev pub Pushed : Runs → Runs → Run → Result (Unit {0}) Run → Type 0
Pushed before after run (Ok u) = listed after ≡ listed before ++ run ∷ []
Pushed before after run (Err back) = (back ≡ run) × (after ≡ before) × (spaced (listed before ++ run ∷ []) ≡ false)

-- the cluster on a run: the values of its strips, out of those of all strips
abbrev pub cluster_on : List ℕ → Run → Cluster
cluster_on values r = record { address = r.address; values = take r.strips (drop r.address values) }

-- a cluster on each run
abbrev pub clusters : Suppressed → List Cluster
clusters s = map (cluster_on s.values) (listed s.runs)

-- the common modes, then the clusters
abbrev pub suppressed_content : Suppressed → Content
suppressed_content s = suppressed s.modes (clusters s)

abbrev pub words_content : Words → Content
words_content w = words w.list
