-- A worked run of a card and of its shifted twin. On fibre 0 both chips are enabled, and two strips count on each: a quiet
-- one and one with a hit. The capacity is 20 bytes to a fibre. A first event is kept; in the twin its left chip brings 7 more
-- and its right chip 5 less. A second event, with other constants, finds too little room behind the first and is lost. Then
-- the first one is fetched.
-- Assumes nothing.
use Rattle.std.specs.Prelude.{◌≡◌, ℕ, ◌+◌, ◌-◌, ◌/◌, ◌%◌, Bool, true, false, cond, List, [], ◌∷◌, ◌++◌, map, replicate, ℤ, pos, negsuc, Some, ◌==◌}
use Rattle.std.specs.List.{range_with_len, flat_map}
use Rattle.terms.specs.declared.pair.Side.{Side}
use Rattle.terms.specs.declared.pair.Side.TheVariants.{Left, Right}
use Rattle.rules.specs.Rules.{rank}
use Rattle.card_model.specs.Calls.{Call, load, clock, ask, fetch, no_room, loss_number, loss_named, taken, refused, quiet, synch, lost, slip, given_back, level_is, Answer, kept, fetched, was_reset, plain}
use Rattle.card_model.specs.Runs.{answers}
use Rattle.card_model.specs.Twins.{Constants, Twins}

-- ---- the calls

-- a Clock with a sample on fibre 0, and another on each of the others
abbrev pub clock_of : ℕ → ℕ → Call
clock_of sample other = clock (sample ∷ replicate 11 other)

-- the setting words of fibre 0, the newest first: rank settings of 0, so that a common mode is the lowest value; thresholds
-- 10 and 20 of strips 129 and 1; strips 129 and 128 valid with pedestal 30, strips 1 and 0 with pedestal 20; both chips
-- enabled with tick threshold 16
abbrev pub setting_words : List ℕ
setting_words =
    0x50010000 ∷ 0x50000000 ∷ 0x4081140A ∷ 0x4001140A ∷ 0x3081041E ∷ 0x3080041E ∷ 0x30010414 ∷ 0x30000414 ∷ 0x200000D0 ∷ []

-- the samples of an event: those of the two quiet strips, and what comes from every strip that does not count
pub record Brought : Type 0 where
  pub left : ℕ
  pub right : ℕ
  pub elsewhere : ℕ

-- the sample at a place of the frame: the quiet strips 0 and 128 come at places 0 and 1, and strips 1 and 129 at places 32
-- and 33, with 80 and 60 more
abbrev pub sample_at : Brought → ℕ → ℕ
sample_at b place =
    cond (place == 0) b.left
    (cond (place == 1) b.right
    (cond (place == 32) (b.left + 80) (cond (place == 33) (b.right + 60) b.elsewhere)))

-- the 256 places of a frame, the last first
abbrev pub places : List ℕ
places = map (λ k. 255 - k) (range_with_len 0 256)

-- the 256 Clocks of an event, the newest first
abbrev pub clocks : Brought → List Call
clocks b = map (λ place. clock_of (sample_at b place) b.elsewhere) places

-- what comes on the line: the sample that a 1 is, the one that a 0 is, and two events
pub record Line : Type 0 where
  pub high : ℕ
  pub low : ℕ
  pub first : Brought
  pub second : Brought

-- a tick mark, the newest first: two 1s and 68 0s
abbrev pub mark : Line → List Call
mark l = replicate 68 (clock_of l.low 0) ++ replicate 2 (clock_of l.high 0)

-- the beginning of a frame: six 1s, two header bytes of 1s, two good error bits
abbrev pub frame_begins : Line → List Call
frame_begins l = replicate 24 (clock_of l.high 0)

-- all calls, the newest first: the settings, two tick marks, two frames back to back, and a Fetch with a slip
abbrev pub calls : Line → List Call
calls l =
    fetch 90
    ∷ ask
    ∷ (clocks l.second
    ++ (frame_begins l ++ (clocks l.first ++ (frame_begins l ++ (mark l ++ (mark l ++ map load setting_words))))))

-- the line of the card
abbrev pub card_line : Line
card_line =
    record {
      high = 1000;
      low = 0;
      first = record { left = 120; right = 288; elsewhere = 0 };
      second = record { left = 150; right = 330; elsewhere = 0 };
    }

-- the line of the twin: other samples with the same levels, above 512 or not; the first event brings 7 more on the left chip
-- and 5 less on the right one, the second 3 less and 9 more; what comes from elsewhere is free
abbrev pub twin_line : Line
twin_line =
    record {
      high = 900;
      low = 400;
      first = record { left = 127; right = 283; elsewhere = 900 };
      second = record { left = 147; right = 339; elsewhere = 1023 };
    }

-- the capacity: a record of 13 bytes fits, and a second one does not
abbrev pub room : ℕ
room = 20

-- the constants of fibre 0 in the first event and in the second
abbrev pub chip_constant : ℕ → Side → ℤ
chip_constant n Left = cond (n == 0) (pos 7) (negsuc 2)
chip_constant n Right = cond (n == 0) (negsuc 4) (pos 9)

-- the other fibres have no strip that counts
abbrev pub constants : ℕ → Constants
constants n f side = cond (f == 0) (chip_constant n side) (pos 0)

-- ---- the answers

abbrev pub is_quiet : Answer → Bool
is_quiet (kept n) = false
is_quiet (fetched bytes) = false
is_quiet was_reset = false
is_quiet (plain taken) = false
is_quiet (plain (refused e)) = false
is_quiet (plain quiet) = true
is_quiet (plain (synch header words)) = false
is_quiet (plain (lost l)) = false
is_quiet (plain (slip n)) = false
is_quiet (plain given_back) = false
is_quiet (plain (level_is n)) = false

-- an answer before others, unless it is quiet
abbrev pub and_then : Answer → List Answer → List Answer
and_then answer before = cond (is_quiet answer) before (answer ∷ before)

-- all answers of a list but the quiet ones
abbrev pub spoken : List Answer → List Answer
spoken [] = []
spoken (answer ∷ before) = and_then answer (spoken before)

-- a synch answer: header 255; fibre 0 in lock and in step, its headers the majority's and its error bits good; the others off
abbrev pub in_synch : Answer
in_synch = plain (synch 255 (63 ∷ replicate 11 0))

-- the bytes of the first event beside the common modes of fibre 0: the clusters are strip 1 with 80 and strip 129 with 60;
-- the other fibres have neither
abbrev pub event_bytes : ℕ → ℕ → List ℕ
event_bytes left right =
    (13 ∷ 0 ∷ 0xEA ∷ left % 256 ∷ left / 256 ∷ right % 256 ∷ right / 256 ∷ 1 ∷ 1 ∷ 80 ∷ 129 ∷ 1 ∷ 60 ∷ [])
    ++ flat_map (λ f. 7 ∷ 0 ∷ 0xEA ∷ 0 ∷ 0 ∷ 0 ∷ 0 ∷ []) (range_with_len 1 11)

-- what is answered, the newest first, beside those common modes: nine settings are taken; a synch, and the first event kept
-- with 90 bytes; a synch, and the second event lost, as its record exceeds the room of fibre 0; a slip, and the first event
abbrev pub answered_with : ℕ → ℕ → List Answer
answered_with left right =
    fetched (event_bytes left right)
    ∷ plain (slip 90)
    ∷ plain (lost (no_room 0))
    ∷ in_synch
    ∷ kept 90
    ∷ in_synch
    ∷ replicate 9 (plain taken)

-- the card and the twin, by the rank rule: twins, and what each is answered. The common modes are 100 and 258 in the card, 107
-- and 253 in the twin, which is 7 more and 5 less. The loss is number 15 and names fibre 0
pub record WorkedTwins : Type 0 where
  pub twins : Twins rank room constants (calls card_line) (calls twin_line)
  pub answered : spoken (answers rank room (calls card_line)) ≡ answered_with 100 258
  pub twin_answered : spoken (answers rank room (calls twin_line)) ≡ answered_with 107 253
  pub loss_told : (loss_number (no_room 0) ≡ 15) × (loss_named (no_room 0) ≡ Some 0)
