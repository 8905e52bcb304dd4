use Rattle.std.proofs.Common.{◌≡◌, ℕ, ◌<◌, length, get_or}
use Rattle.terms.specs.Terms.{part}
use Rattle.clusters.specs.Patterns.{nothing}
use Rattle.strips.specs.Values.{reduced}
use Rattle.strips.specs.Fibre.{side_of, counts, reached_by}
use Rattle.strips.proofs.reduced.reduce.Given as goal

-- each strip that has passed has its reduced value, and the thresholds that this reaches
abbrev pub invariant-loop-strip : goal.invariant-loop-strip
invariant-loop-strip l =
    (length l.values ≡ 256) × (length l.reached ≡ 256)
    × ((k : ℕ) → k < l.strip → get_or l.values k 0 ≡ reduced (counts l.settings k) (part l.modes (side_of k)) (get_or l.flats.values k 0))
    × ((k : ℕ) → k < l.strip
    → get_or l.reached k nothing
    ≡ reached_by l.settings (reduced (counts l.settings k) (part l.modes (side_of k)) (get_or l.flats.values k 0)) k)
