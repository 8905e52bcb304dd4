-- What writing into a lent buffer leaves there.
-- Assumes nothing.
use Rattle.std.specs.Prelude.{◌≡◌, ℕ, ◌+◌, ◌<◌, ◌≤◌, List, ◌++◌, length, take, drop, Ok, Err, Result}
use Rattle.terms.specs.declared.refusal.Refusal.{Refusal}
use Rattle.terms.specs.declared.refusal.Refusal.TheVariants.{BufferTooShort}

-- bytes written over a buffer from a place on: what lies before and behind them stays
abbrev pub over : List ℕ → ℕ → List ℕ → List ℕ
over buffer at bytes = take at buffer ++ (bytes ++ drop (at + length bytes) buffer)

-- the bytes stand at the front of the buffer and nothing behind them has changed; or they did not fit, the refusal names their number, and the buffer is as it was
abbrev pub Written : List ℕ → List ℕ → List ℕ → Result ℕ Refusal → Type 0
Written bytes before after (Ok n) = (n ≡ length bytes) × (length bytes ≤ length before) × (after ≡ bytes ++ drop (length bytes) before)
Written bytes before after (Err e) = (e ≡ BufferTooShort (length bytes)) × (length before < length bytes) × (after ≡ before)
