-- Strips that reach nothing.
-- Assumes nothing.
use Rattle.std.specs.Prelude.{Bool, not, ◌&&◌, List, slice_index_or}
use Rattle.clusters.specs.declared.reached.Reached.{Reached}
use Rattle.clusters.specs.Patterns.{nothing}

-- a strip reaches neither threshold
abbrev pub reaches_nothing : Reached → Bool
reaches_nothing strip = not strip.thresh1 && not strip.thresh2

-- in a window of five strips, the one in the middle and the one before it reach nothing
abbrev pub quiet : List Reached → Bool
quiet strips = reaches_nothing (slice_index_or strips 1 nothing) && reaches_nothing (slice_index_or strips 2 nothing)
