-- What a ticker is for, over whole lines of samples.
-- Assumes nothing.
use Rattle.std.specs.Prelude.{◌≡◌, ℕ, ◌+◌, ◌*◌, ◌%◌, ◌<◌, ◌≤◌, Bool, true, false, cond, ◌≢◌, ◌==◌, nat_le, nat_lt}
use Rattle.terms.specs.declared.enable.Enable.{Enable}
use Rattle.terms.specs.declared.pair.Side.{Side}
use Rattle.terms.specs.Terms.{enabled, part, side_number}
use Rattle.ticker.specs.declared.header.FrameHeader.{FrameHeader}
use Rattle.ticker.specs.declared.state.State.{State}
use Rattle.ticker.specs.declared.state.State.TheVariants.{Hunt, Locked, Check, Frame}
use Rattle.ticker.specs.Step.{sent, due, taken_as, first_due, judged, next, pulses, heard}
use Rattle.ticker.specs.Runs.{Line, state_after, header_after, pulse_at}

-- tick marks of period 70: 1s at the due positions 0 and 1, a 0 at the first due position from 2
abbrev pub Marks : Enable → Line → Type 0
Marks e x =
    (n : ℕ) → (due e (n % 70) ≡ true → n % 70 < 2 → x n ≡ true) × (first_due e (n % 70) ≡ true → x n ≡ false)

-- a ticker in Hunt whose first 1 is a mark's own is Locked after the second mark, and stays so while marks go on
abbrev pub LocksOnMarks : Type 0
LocksOnMarks =
    (e : Enable) (x : Line) (start : ℕ) → sent e ≡ Hunt → Marks e (λ n. x (start + n))
    → ((n : ℕ) → n < start + taken_as e → x n ≡ false)
    → (n : ℕ) → 72 ≤ n → state_after e Hunt x (start + n) ≡ Locked (n % 70)

-- a frame begins with 1s at its due positions 0 to 5
abbrev pub FrameBegins : Enable → Line → Type 0
FrameBegins e x = (n : ℕ) → n < 6 → due e n ≡ true → x n ≡ true

-- the state at each position of a frame, and after its last
abbrev pub in_frame : Enable → ℕ → State
in_frame e n =
    cond (nat_le n (cond (due e 2) 2 3)) (Locked n) (cond (nat_lt n 6) (Check n) (cond (nat_lt n 280) (Frame n) (Locked 0)))

-- a ticker Locked at 0 follows a frame that begins there: it pulses at the sixth sample and at no other, and is
-- Locked at 0 again after 280
abbrev pub FollowsAFrame : Type 0
FollowsAFrame =
    (e : Enable) (x : Line) → sent e ≡ Hunt → FrameBegins e x
    → ((n : ℕ) → n < 280 → pulse_at e (Locked 0) x n ≡ (n == 5))
    × ((n : ℕ) → n ≤ 280 → state_after e (Locked 0) x n ≡ in_frame e n)
    × (state_after e (Locked 0) x 280 ≡ Locked 0)

-- a level as a bit
abbrev pub bit : Bool → ℕ
bit l = cond l 1 0

-- the byte of every second level from sample n on, highest bit first
abbrev pub byte_from : Line → ℕ → ℕ
byte_from x n =
    128 * bit (x n) + 64 * bit (x (n + 2)) + 32 * bit (x (n + 4)) + 16 * bit (x (n + 6))
    + 8 * bit (x (n + 8)) + 4 * bit (x (n + 10)) + 2 * bit (x (n + 12)) + bit (x (n + 14))

-- from position 24 to a frame's end the ticker has each enabled chip's header byte, of positions 6 to 21, and its
-- error bit, of 22 and 23, and what it had of a chip that is not enabled
abbrev pub HearsAFrame : Type 0
HearsAFrame =
    (e : Enable) (x : Line) (h : FrameHeader) (side : Side) → sent e ≡ Hunt → FrameBegins e x
    → (n : ℕ) → 24 ≤ n → n ≤ 280
    → (part (header_after e (Locked 0) h x n).bytes side
    ≡ cond (enabled e side) (byte_from x (6 + side_number side)) (part h.bytes side))
    × (part (header_after e (Locked 0) h x n).good side
    ≡ cond (enabled e side) (x (22 + side_number side)) (part h.good side))

-- states, pulses and headers depend on the judged samples alone: two lines with equal levels at each of them give the same
abbrev pub JudgedAlone : Type 0
JudgedAlone =
    (e : Enable) (s : State) (h : FrameHeader) (x y : Line)
    → ((n : ℕ) → judged e (state_after e s x n) ≡ true → x n ≡ y n)
    → (n : ℕ) → (state_after e s x n ≡ state_after e s y n) × (pulse_at e s x n ≡ pulse_at e s y n)
    × (header_after e s h x n ≡ header_after e s h y n)

-- all that a sample brings about: the state, the pulse, the header
abbrev pub outcome : Enable → State → FrameHeader → Bool → State × Bool × FrameHeader
outcome e s h l = (next e s l, pulses e s l, heard e s l h)

-- a sample is judged exactly if its level matters
abbrev pub JudgedExactly : Type 0
JudgedExactly =
    (e : Enable) (s : State) (h : FrameHeader)
    → (judged e s ≡ false → outcome e s h true ≡ outcome e s h false)
    × (judged e s ≡ true → outcome e s h true ≢ outcome e s h false)
