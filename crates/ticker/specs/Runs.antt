-- A ticker over the samples of a line.
-- Assumes nothing.
use Rattle.std.specs.Prelude.{ℕ, zero, suc, Bool}
use Rattle.terms.specs.declared.enable.Enable.{Enable}
use Rattle.ticker.specs.declared.header.FrameHeader.{FrameHeader}
use Rattle.ticker.specs.declared.state.State.{State}
use Rattle.ticker.specs.Step.{next, pulses, heard}

-- the levels that come on a fibre, sample by sample
abbrev pub Line : Type 0
Line = ℕ → Bool

-- the state after the first n samples of a line, so that of the coming sample n
unfoldable pub state_after : Enable → State → Line → ℕ → State
state_after e s x zero = s
state_after e s x (suc n) = next e (state_after e s x n) (x n)

-- the header after the first n samples
unfoldable pub header_after : Enable → State → FrameHeader → Line → ℕ → FrameHeader
header_after e s h x zero = h
header_after e s h x (suc n) = heard e (state_after e s x n) (x n) (header_after e s h x n)

-- whether sample n makes the ticker pulse
abbrev pub pulse_at : Enable → State → Line → ℕ → Bool
pulse_at e s x n = pulses e (state_after e s x n) (x n)
