-- A mask of k ones keeps the lowest k bits.
-- Assumes nothing.
use Rattle.std.proofs.Common.{◌≡◌, ℕ, ◌-◌, ◌*◌, ◌%◌, ◌^◌, ◌<◌}
use lib.Bits.{bit_and}
use Rattle.std.proofs.lemmas.Nat.{and_mask, one_shl}

pub masked : (a k : ℕ) → k < 32 → bit_and a ((1 * 2 ^ k) % 2 ^ 32 - 1) ≡ a % 2 ^ k
masked a k h = rw (one_shl k 32 h) (and_mask a k)
