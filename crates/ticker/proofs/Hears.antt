-- What a ticker hears of a frame: each enabled chip's header byte and error bit.
-- Assumes nothing.
use Rattle.std.proofs.Common.{◌≡◌, ℕ, zero, suc, ◌+◌, ◌-◌, ◌*◌, ◌%◌, ◌<◌, ◌≤◌, Bool, true, false, cond, ◌&&◌, ltb, leb, refl, ap, ◌∙◌, subst, ap₂, add-suc, arith}
use Rattle.std.proofs.lemmas.Bool.{lt-leb, both_ways}
use Rattle.terms.specs.declared.enable.Enable.{Enable}
use Rattle.terms.specs.declared.enable.Enable.TheVariants as enables
use Rattle.terms.specs.declared.pair.Side.{Side}
use Rattle.terms.specs.declared.pair.Side.TheVariants.{Left, Right}
use Rattle.terms.specs.Terms.{enabled, part, side_number}
use Rattle.ticker.specs.declared.header.FrameHeader.{FrameHeader}
use Rattle.ticker.specs.declared.state.State.{State}
use Rattle.ticker.specs.declared.state.State.TheVariants.{Hunt, Locked, Frame}
use Rattle.ticker.specs.Step.{sent, due, side_of, heard, shifted, with_bit, with_error}
use Rattle.ticker.specs.Runs.{Line, header_after}
use Rattle.ticker.specs.Laws.{FrameBegins, bit, byte_from, HearsAFrame}
use Rattle.ticker.proofs.Follows.{opening, framed, followed}

-- the header after d samples from position 6 on
abbrev from_six : Enable → Line → FrameHeader → ℕ → FrameHeader
from_six e x h zero = h
from_six e x h (suc d) = heard e (Frame (6 + d)) (x (6 + d)) (from_six e x h d)

-- a level is at most 1
bit_le : (l : Bool) → bit l ≤ 1
bit_le true = omega arith
bit_le false = omega arith

-- what a byte held goes up and out
up : (n v : ℕ) (l : Bool) → v ≡ n % 256 → shifted v l ≡ (2 * n + bit l) % 256
up n v l q = omega (arith, bit_le l)

-- eight bits fill a byte, whatever it held
filled : (c : ℕ) (a0 a1 a2 a3 a4 a5 a6 a7 : Bool)
    → shifted (shifted (shifted (shifted (shifted (shifted (shifted (shifted c a0) a1) a2) a3) a4) a5) a6) a7
    ≡ 128 * bit a0 + 64 * bit a1 + 32 * bit a2 + 16 * bit a3 + 8 * bit a4 + 4 * bit a5 + 2 * bit a6 + bit a7
filled c a0 a1 a2 a3 a4 a5 a6 a7 =
    let n0 : ℕ = 2 * c + bit a0 in
    let n1 : ℕ = 2 * n0 + bit a1 in
    let n2 : ℕ = 2 * n1 + bit a2 in
    let n3 : ℕ = 2 * n2 + bit a3 in
    let n4 : ℕ = 2 * n3 + bit a4 in
    let n5 : ℕ = 2 * n4 + bit a5 in
    let n6 : ℕ = 2 * n5 + bit a6 in
    let first : shifted c a0 ≡ n0 % 256 = omega (arith, bit_le a0) in
    up n6 _ a7 (up n5 _ a6 (up n4 _ a5 (up n3 _ a4 (up n2 _ a3 (up n1 _ a2 (up n0 _ a1 first))))))
    ∙ omega (arith, bit_le a0, bit_le a1, bit_le a2, bit_le a3, bit_le a4, bit_le a5, bit_le a6, bit_le a7)

-- what eighteen samples from position 6 on bring for a chip
heard_all : (e : Enable) (x : Line) (h : FrameHeader) (side : Side) → sent e ≡ Hunt
    → (part (from_six e x h 18).bytes side ≡ cond (enabled e side) (byte_from x (6 + side_number side)) (part h.bytes side))
    × (part (from_six e x h 18).good side ≡ cond (enabled e side) (x (22 + side_number side)) (part h.good side))
heard_all enables.Neither x h side on = absurd (let z : ◌≡◌ {A = ℕ} 0 1 = cc in omega arith)
heard_all enables.Right x h Left on = (refl, refl)
heard_all enables.Right x h Right on = (filled h.bytes.right (x 7) (x 9) (x 11) (x 13) (x 15) (x 17) (x 19) (x 21), refl)
heard_all enables.Left x h Left on = (filled h.bytes.left (x 6) (x 8) (x 10) (x 12) (x 14) (x 16) (x 18) (x 20), refl)
heard_all enables.Left x h Right on = (refl, refl)
heard_all enables.Both x h Left on = (filled h.bytes.left (x 6) (x 8) (x 10) (x 12) (x 14) (x 16) (x 18) (x 20), refl)
heard_all enables.Both x h Right on = (filled h.bytes.right (x 7) (x 9) (x 11) (x 13) (x 15) (x 17) (x 19) (x 21), refl)

-- nothing is heard past position 23
past : {X : Type 0} (d a b : Bool) (s t : X) → b ≡ false → cond (d && (a && b)) s t ≡ t
past true true true s t q = absurd (both_ways true q refl)
past true true false s t q = refl
past true false b s t q = refl
past false a b s t q = refl

module _ (e : Enable) (x : Line) (h : FrameHeader) (on : sent e ≡ Hunt) (begins : FrameBegins e x) where
  before : (n : ℕ) → n ≤ 6 → header_after e (Locked 0) h x n ≡ h
  unfolding header_after
  before zero k = refl
  before (suc n) k =
      ap₂ (λ (s : State) (g : FrameHeader). heard e s (x n) g) (followed e x on begins n (omega arith)) (before n (omega arith))
      ∙ (opening e on n (omega arith)).keeps (x n) h

  one_more : (n : ℕ) (g : FrameHeader) → 6 ≤ n → n < 280 → header_after e (Locked 0) h x n ≡ g
      → header_after e (Locked 0) h x (suc n) ≡ heard e (Frame n) (x n) g
  unfolding header_after
  one_more n g k l q = ap₂ (λ (s : State) (f : FrameHeader). heard e s (x n) f) (followed e x on begins n (omega arith) ∙ framed e n k l) q

  during : (d : ℕ) → d ≤ 18 → header_after e (Locked 0) h x (6 + d) ≡ from_six e x h d
  during zero k = before 6 (omega arith)
  during (suc d) k =
      ap (λ (i : ℕ). header_after e (Locked 0) h x i) (add-suc 6 d)
      ∙ one_more (6 + d) (from_six e x h d) (omega arith) (omega arith) (during d (omega arith))

  after : (d : ℕ) → d + 24 ≤ 280 → header_after e (Locked 0) h x (d + 24) ≡ from_six e x h 18
  after zero k = during 18 (omega arith)
  after (suc d) k =
      let n : ℕ = d + 24 in
      let g : FrameHeader = from_six e x h 18 in
      let up : suc d + 24 ≡ suc n = omega arith in
      ap (λ (i : ℕ). header_after e (Locked 0) h x i) up
      ∙ one_more n g (omega arith) (omega arith) (after d (omega arith))
      ∙ past (due e n) (leb 6 n) (leb n 23) (cond (ltb n 22) (with_bit g (side_of n) (x n)) (with_error g (side_of n) (x n))) g (lt-leb n 23 (omega arith))

pub hears_a_frame : HearsAFrame
hears_a_frame e x h side on begins n a b =
    let q : (n - 24) + 24 ≡ n = omega arith in
    let k : header_after e (Locked 0) h x n ≡ from_six e x h 18
    = subst (λ (i : ℕ). header_after e (Locked 0) h x i ≡ from_six e x h 18) q (after e x h on begins (n - 24) (omega arith)) in (
      ap (λ (g : FrameHeader). part g.bytes side) k ∙ (heard_all e x h side on).0,
      ap (λ (g : FrameHeader). part g.good side) k ∙ (heard_all e x h side on).1,
    )
