-- What a ticker does with one sample.
-- Assumes nothing.
use Rattle.std.specs.Prelude.{ℕ, ◌+◌, ◌*◌, ◌%◌, Bool, true, false, cond, not, ◌&&◌, ◌||◌, ◌==◌, nat_le, nat_lt}
use Rattle.terms.specs.declared.enable.Enable.{Enable}
use Rattle.terms.specs.declared.enable.Enable.TheVariants as enables
use Rattle.terms.specs.declared.pair.Side.{Side}
use Rattle.terms.specs.declared.pair.Side.TheVariants.{Left, Right}
use Rattle.terms.specs.Terms.{enabled}
use Rattle.ticker.specs.declared.header.FrameHeader.{FrameHeader}
use Rattle.ticker.specs.declared.state.State.{State}
use Rattle.ticker.specs.declared.state.State.TheVariants.{Off, Hunt, Trial, Locked, Check, Frame}

-- a sample is a 1 if it exceeds 32 times the threshold, else a 0
abbrev pub is_one : ℕ → ℕ → Bool
is_one sample threshold = nat_lt (32 * threshold) sample

-- even positions belong to the left chip, odd ones to the right chip
abbrev pub side_of : ℕ → Side
side_of p = cond (p % 2 == 0) Left Right

-- a position is due if its chip is enabled
abbrev pub due : Enable → ℕ → Bool
due e p = enabled e (side_of p)

-- the position that the 1 seen in Hunt is taken for
abbrev pub taken_as : Enable → ℕ
taken_as enables.Neither = 0
taken_as enables.Right = 1
taken_as enables.Left = 0
taken_as enables.Both = 0

-- whether a position is the first due one from 2: 2 if the left chip is enabled, else 3
abbrev pub first_due : Enable → ℕ → Bool
first_due e p = due e p && p == cond (due e 2) 2 3

-- whether the coming sample is judged
abbrev pub judged : Enable → State → Bool
judged e Off = false
judged e Hunt = true
judged e (Trial p) = due e p && (p == 1 || p == 70 || p == 71)
judged e (Locked p) = (due e p && nat_lt p 2) || first_due e p
judged e (Check p) = due e p
judged e (Frame p) = due e p && (nat_le 6 p && nat_le p 23)

-- the state after a sample, by the sample's level
abbrev pub next : Enable → State → Bool → State
next e Off l = Off
next e Hunt l = cond l (Trial (taken_as e + 1)) Hunt
next e (Trial p) l = cond (judged e (Trial p) && not l) Hunt (cond (p == 71) (Locked 2) (Trial (p + 1)))
next e (Locked p) l =
    cond (due e p && nat_lt p 2 && not l) Hunt
    (cond (first_due e p && l) (Check (p + 1)) (Locked (cond (p == 69) 0 (p + 1))))
next e (Check p) l = cond (due e p && not l) Hunt (cond (p == 5) (Frame 6) (Check (p + 1)))
next e (Frame p) l = cond (p == 279) (Locked 0) (Frame (p + 1))

-- whether the ticker pulses with a sample: Check has come past position 5
abbrev pub pulses : Enable → State → Bool → Bool
pulses e Off l = false
pulses e Hunt l = false
pulses e (Trial p) l = false
pulses e (Locked p) l = false
pulses e (Check p) l = p == 5 && not (due e p && not l)
pulses e (Frame p) l = false

-- whether a ticker knows where it is on the line
abbrev pub in_lock : State → Bool
in_lock Off = false
in_lock Hunt = false
in_lock (Trial p) = false
in_lock (Locked p) = true
in_lock (Check p) = true
in_lock (Frame p) = true

-- where a ticker is sent by its enable
abbrev pub sent : Enable → State
sent enables.Neither = Off
sent enables.Right = Hunt
sent enables.Left = Hunt
sent enables.Both = Hunt

-- a header byte moves up by one bit, and the level enters at its lowest
abbrev pub shifted : ℕ → Bool → ℕ
shifted b l = (2 * b) % 256 + cond l 1 0

-- a fibre's header after one more bit of a chip's header byte
abbrev pub with_bit : FrameHeader → Side → Bool → FrameHeader
with_bit h Left l = record { bytes = record { left = shifted h.bytes.left l; right = h.bytes.right }; good = h.good }
with_bit h Right l = record { bytes = record { left = h.bytes.left; right = shifted h.bytes.right l }; good = h.good }

-- a fibre's header after a chip's error bit
abbrev pub with_error : FrameHeader → Side → Bool → FrameHeader
with_error h Left l = record { bytes = h.bytes; good = record { left = l; right = h.good.right } }
with_error h Right l = record { bytes = h.bytes; good = record { left = h.good.left; right = l } }

-- what the due positions of a frame bring: 6 to 21 the header bytes, left then right, 22 and 23 the error bits
abbrev pub heard : Enable → State → Bool → FrameHeader → FrameHeader
heard e Off l h = h
heard e Hunt l h = h
heard e (Trial p) l h = h
heard e (Locked p) l h = h
heard e (Check p) l h = h
heard e (Frame p) l h =
    cond (judged e (Frame p)) (cond (nat_lt p 22) (with_bit h (side_of p) l) (with_error h (side_of p) l)) h

-- the header of a new ticker
abbrev pub blank : FrameHeader
blank = record { bytes = record { left = 0; right = 0 }; good = record { left = false; right = false } }
