-- The bytes of a word. Assumes nothing.
use Rattle.std.proofs.Common.{◌≡◌, ℕ, zero, suc, ◌-◌, ◌*◌, ◌/◌, ◌%◌, ◌^◌, ◌<◌, cond, eqb, ◌≢◌, refl, ap, ◌∙◌, ap₂, arith}
use lib.Bits.{bit_and, bit_or, and_zero_r, or_zero_l, or_zero_r}
use Rattle.std.proofs.lemmas.Nat.{and_mask, or_shr, and_shr, or_mod, and_mod}
use Rattle.std.proofs.lemmas.Bool.{eq-eqb, ne_eqb}
use Rattle.stores.specs.Cells.{byte_of}

below_four : (P : ℕ → Type 0) → P 0 → P 1 → P 2 → P 3 → (k : ℕ) → k < 4 → P k
below_four P a b c d zero h = a
below_four P a b c d (suc zero) h = b
below_four P a b c d (suc (suc zero)) h = c
below_four P a b c d (suc (suc (suc zero))) h = d
below_four P a b c d (suc (suc (suc (suc k)))) h = absurd (omega arith)

-- all ones but those of byte k
abbrev holed : ℕ → ℕ
holed k = 2 ^ 32 - 1 - 255 * 2 ^ (8 * k) % 2 ^ 32

holed_byte : (k j : ℕ) → k < 4 → j < 4 → byte_of (holed k) j ≡ cond (eqb j k) 0 255
holed_byte k j hk hj =
    let Q : ℕ → ℕ → Type 0 = λ m n. byte_of (holed m) n ≡ cond (eqb n m) 0 255 in
    below_four (λ m. Q m j)
    (below_four (Q 0) refl refl refl refl j hj) (below_four (Q 1) refl refl refl refl j hj)
    (below_four (Q 2) refl refl refl refl j hj) (below_four (Q 3) refl refl refl refl j hj) k hk

moved_byte : (b k j : ℕ) → b < 256 → k < 4 → j < 4 → byte_of (b * 2 ^ (8 * k) % 2 ^ 32) j ≡ cond (eqb j k) b 0
moved_byte b k j hb hk hj =
    let Q : ℕ → ℕ → Type 0 = λ m n. byte_of (b * 2 ^ (8 * m) % 2 ^ 32) n ≡ cond (eqb n m) b 0 in
    below_four (λ m. Q m j)
    (below_four (Q 0) (omega arith) (omega arith) (omega arith) (omega arith) j hj)
    (below_four (Q 1) (omega arith) (omega arith) (omega arith) (omega arith) j hj)
    (below_four (Q 2) (omega arith) (omega arith) (omega arith) (omega arith) j hj)
    (below_four (Q 3) (omega arith) (omega arith) (omega arith) (omega arith) j hj) k hk

-- the word that with_byte makes
abbrev joined_word : ℕ → ℕ → ℕ → ℕ
joined_word w k b = bit_or (bit_and w (holed k)) (b * 2 ^ (8 * k) % 2 ^ 32)

byte_joined : (w k b j : ℕ) → byte_of (joined_word w k b) j ≡ bit_or (bit_and (byte_of w j) (byte_of (holed k) j)) (byte_of (b * 2 ^ (8 * k) % 2 ^ 32) j)
byte_joined w k b j =
    ap (λ x. x % 2 ^ 8) (or_shr (bit_and w (holed k)) (b * 2 ^ (8 * k) % 2 ^ 32) (8 * j) ∙ ap (λ x. bit_or x (b * 2 ^ (8 * k) % 2 ^ 32 / 2 ^ (8 * j))) (and_shr w (holed k) (8 * j)))
    ∙ or_mod (bit_and (w / 2 ^ (8 * j)) (holed k / 2 ^ (8 * j))) (b * 2 ^ (8 * k) % 2 ^ 32 / 2 ^ (8 * j)) 8
    ∙ ap (λ x. bit_or x (byte_of (b * 2 ^ (8 * k) % 2 ^ 32) j)) (and_mod (w / 2 ^ (8 * j)) (holed k / 2 ^ (8 * j)) 8)

pub joined_here : (w k b : ℕ) → k < 4 → b < 256 → byte_of (joined_word w k b) k ≡ b
joined_here w k b hk hb =
    byte_joined w k b k
    ∙ ap₂ (λ m n. bit_or (bit_and (byte_of w k) m) n)
    (holed_byte k k hk hk ∙ ap (λ t. cond t 0 255) (eq-eqb k k refl)) (moved_byte b k k hb hk hk ∙ ap (λ t. cond t b 0) (eq-eqb k k refl))
    ∙ ap (λ m. bit_or m b) (and_zero_r (byte_of w k)) ∙ or_zero_l b

pub joined_there : (w k b j : ℕ) → k < 4 → b < 256 → j < 4 → j ≢ k → byte_of (joined_word w k b) j ≡ byte_of w j
joined_there w k b j hk hb hj ne =
    byte_joined w k b j
    ∙ ap₂ (λ m n. bit_or (bit_and (byte_of w j) m) n)
    (holed_byte k j hk hj ∙ ap (λ t. cond t 0 255) (ne_eqb j k ne)) (moved_byte b k j hb hk hj ∙ ap (λ t. cond t b 0) (ne_eqb j k ne))
    ∙ or_zero_r (bit_and (byte_of w j) 255) ∙ and_mask (byte_of w j) 8 ∙ omega arith
