-- What the parts of a card's memory say of its state.
-- Assumes nothing.
use Rattle.std.specs.Prelude.{◌≡◌, ℕ, ◌≤◌, ◌-◌, List, length}
use Rattle.std.specs.List.{AllByRecursion}
use Rattle.ticker.specs.Range.{position, lowest, highest}
use Rattle.layout.specs.Event.{TenBits}
use Rattle.card_model.specs.Clock.{first_sample}
use Rattle.card_model.specs.State.{Watch, Capture}

-- a ticker holds a position that its state can hold
abbrev pub InReach : Watch → Type 0
InReach w = (lowest w.state ≤ position w.state) × (position w.state ≤ highest w.state)

-- a captured column has a ten-bit sample of each fibre
abbrev pub IsColumn : List ℕ → Type 0
IsColumn column = (length column ≡ 12) × AllByRecursion TenBits column

-- a capture is not past its last position, and has a column for each position before its own, from the first sample's on
pub record Captured (c : Capture) : Type 0 where
  pub within : c.position ≤ 279
  pub many : length c.columns ≡ c.position - first_sample
  pub columns : AllByRecursion IsColumn c.columns
