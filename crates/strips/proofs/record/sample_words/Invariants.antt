use Rattle.std.proofs.Common.{◌≡◌, ℕ, ◌<◌, length, get_or}
use Rattle.strips.specs.Fibre.{numbers}
use Rattle.strips.proofs.record.sample_words.Given as goal

-- the words before this place are the samples' numbers
abbrev pub invariant-loop-place : goal.invariant-loop-place
invariant-loop-place l = (length l.list ≡ 256) × ((k : ℕ) → k < l.place → get_or l.list k 0 ≡ get_or (numbers l.samples) k 0)
