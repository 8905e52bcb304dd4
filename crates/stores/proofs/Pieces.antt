-- A stretch of a ring in two pieces at most: before the end, and from the first place on. Assumes nothing.
use Rattle.std.proofs.Common.{◌≡◌, ℕ, ◌+◌, ◌-◌, ◌%◌, ◌<◌, ◌≤◌, min, List, ◌++◌, length, get_or, take, drop, sym, ap, ◌∙◌, ⊎_elim, arith}
use borrow.Rule.Slice.PartMut.{put_mid, post_of}
use Rattle.std.proofs.lemmas.List.{length-drop, length-take-le, get_or_append_left, get_or-append_right, get_or-take, get_or-drop}
use Rattle.std.proofs.lemmas.Bool.{cases_lt, cases_eq, lt-ltb, le-ltb}
use Rattle.stores.specs.Cells.{byte_cell, round, Written, Filled, Laid}

pub round_before : (first end at k : ℕ) → at + k < end → round first end at k ≡ at + k
round_before first end at k h = rw (lt-ltb (at + k) end h)

pub round_past : (first end at k : ℕ) → end ≤ at + k → round first end at k ≡ at + k - end + first
round_past first end at k h = rw (le-ltb (at + k) end h)

-- one byte more
pub filled_more : (cells mid cells' : ℕ → ℕ) (p i b : ℕ) (bytes : List ℕ) → i < length bytes
    → Filled cells mid p (take i bytes) → Written mid cells' (p + i) b → b ≡ get_or bytes i 0 → Filled cells cells' p (take (i + 1) bytes)
filled_more cells mid cells' p i b bytes l f w is =
    let n = length-take-le i bytes (omega arith) in
    let m = length-take-le (i + 1) bytes (omega arith) in
    record {
      here = λ k h. ⊎_elim
          (λ e. ap (λ j. cells' (p + j)) e ∙ w.here ∙ is ∙ sym (get_or-take (i + 1) bytes k 0 (omega arith) ∙ ap (λ j. get_or bytes j 0) e))
          (λ ne. w.there (p + k) (λ e. ne (omega arith)) ∙ f.here k (omega arith) ∙ get_or-take i bytes k 0 (omega arith) ∙ sym (get_or-take (i + 1) bytes k 0 (omega arith)))
          (cases_eq k i);
      there = λ q ne. w.there q (ne i (omega arith)) ∙ f.there q (λ k h. ne k (omega arith));
    }

-- ---- bytes that are laid

module _ (cells mid cells' : ℕ → ℕ) (first end at front : ℕ) (bytes before after : List ℕ)
    (cut : front ≡ min (length bytes) (end - at)) (is₁ : before ≡ take front bytes) (is₂ : after ≡ drop front bytes)
    (low : first ≤ at) (high : at ≤ end) (room : first + length bytes ≤ end)
    (one : Filled cells mid at before) (two : Filled mid cells' first after) where
  long₁ : length before ≡ front
  long₁ = ap length is₁ ∙ length-take-le front bytes (omega arith)

  long₂ : length after ≡ length bytes - front
  long₂ = ap length is₂ ∙ length-drop front bytes

  laid_first : (k : ℕ) → k < front → cells' (at + k) ≡ get_or bytes k 0
  laid_first k l =
      let m = long₁ in
      let n = long₂ in
      two.there (at + k) (λ j h e. omega arith)
      ∙ one.here k (omega arith) ∙ ap (λ ys. get_or ys k 0) is₁ ∙ get_or-take front bytes k 0 l

  laid_second : (k : ℕ) → front ≤ k → k < length bytes → cells' (at + k - end + first) ≡ get_or bytes k 0
  laid_second k l h =
      let n = long₂ in
      ap cells' (omega arith) ∙ two.here (k - front) (omega arith)
      ∙ ap (λ ys. get_or ys (k - front) 0) is₂ ∙ get_or-drop front bytes (k - front) 0 ∙ ap (λ i. get_or bytes i 0) (omega arith)

  pub laid_in_two : Laid cells cells' first end at bytes
  laid_in_two =
      let m = long₁ in
      let n = long₂ in
      record {
        here = λ k l.
            ⊎_elim
            (λ h. ap cells' (round_before first end at k (omega arith)) ∙ laid_first k h)
            (λ h. ap cells' (round_past first end at k (omega arith)) ∙ laid_second k h l)
            (cases_lt k front);
        there = λ q ne.
            two.there q (λ j h e. ne (front + j) (omega arith) (omega (arith, round_past first end at (front + j) (omega arith))))
            ∙ one.there q (λ j h e. ne j (omega arith) (omega (arith, round_before first end at j (omega arith))));
      }

-- ---- a part of a row of bytes that was overwritten

module _ (a k : ℕ) (xs ys : List ℕ) (fits : a + k ≤ length xs) (long : length ys ≡ k) where
  front_long : length (take a xs) ≡ a
  front_long = length-take-le a xs (omega arith)

  mid_in : (q : ℕ) → a ≤ q → q < a + k → get_or (put_mid a k xs ys) q 0 ≡ get_or ys (q - a) 0
  mid_in q l h =
      get_or-append_right (take a xs) (ys ++ post_of a k xs) a q 0 front_long l ∙ get_or_append_left ys (post_of a k xs) 0 (q - a) (omega arith)

  mid_before : (q : ℕ) → q < a → get_or (put_mid a k xs ys) q 0 ≡ get_or xs q 0
  mid_before q h =
      let n = front_long in
      get_or_append_left (take a xs) (ys ++ post_of a k xs) 0 q (omega arith) ∙ get_or-take a xs q 0 h

  mid_after : (q : ℕ) → a + k ≤ q → get_or (put_mid a k xs ys) q 0 ≡ get_or xs q 0
  mid_after q h =
      get_or-append_right (take a xs) (ys ++ post_of a k xs) a q 0 front_long (omega arith)
      ∙ get_or-append_right ys (post_of a k xs) k (q - a) 0 long (omega arith)
      ∙ get_or-drop k (drop a xs) (q - a - k) 0 ∙ get_or-drop a xs (k + (q - a - k)) 0 ∙ ap (λ i. get_or xs i 0) (omega arith)

  pub bytes_filled : (bytes : List ℕ) → ys ≡ bytes → ((i : ℕ) → get_or bytes i 0 < 256) → Filled (byte_cell xs) (byte_cell (put_mid a k xs ys)) a bytes
  bytes_filled bytes is small =
      let same = ap length is in
      record {
        here = λ i l.
            let back : a + i - a ≡ i = omega arith in
            omega (arith, mid_in (a + i) (omega arith) (omega arith), small i, ap (λ j. get_or ys j 0) back, ap (λ zs. get_or zs i 0) is);
        there = λ q ne.
            ⊎_elim
            (λ h. ap (λ x. x % 256) (mid_before q h))
            (λ h. ⊎_elim
            (λ c. absurd (ne (q - a) (omega arith) (omega arith)))
            (λ c. ap (λ x. x % 256) (mid_after q c))
            (cases_lt q (a + k)))
            (cases_lt q a);
      }
