use Rattle.strips.proofs.Gathering.{Gathered}
use Rattle.strips.proofs.common_mode.counted_values.Given as goal

-- the strips before this one that count are at the front of the row
abbrev pub invariant-loop-strip : goal.invariant-loop-strip
invariant-loop-strip l = Gathered l.settings l.flats.values l.row l.first l.strip l.count
