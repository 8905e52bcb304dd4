-- The positions that each state of a ticker can hold: that of the coming sample.
-- Assumes nothing.
use Rattle.std.specs.Prelude.{ℕ}
use Rattle.ticker.specs.declared.state.State.{State}
use Rattle.ticker.specs.declared.state.State.TheVariants.{Off, Hunt, Trial, Locked, Check, Frame}

-- the position that a state holds; Off and Hunt have none
abbrev pub position : State → ℕ
position Off = 0
position Hunt = 0
position (Trial p) = p
position (Locked p) = p
position (Check p) = p
position (Frame p) = p

-- the lowest position of each state
abbrev pub lowest : State → ℕ
lowest Off = 0
lowest Hunt = 0
lowest (Trial p) = 1
lowest (Locked p) = 0
lowest (Check p) = 3
lowest (Frame p) = 6

-- the highest position of each state
abbrev pub highest : State → ℕ
highest Off = 0
highest Hunt = 0
highest (Trial p) = 71
highest (Locked p) = 69
highest (Check p) = 5
highest (Frame p) = 279
