-- Numbers side by side in one word.
-- Assumes nothing.
use Rattle.std.specs.Prelude.{ℕ, zero, suc, ◌+◌, ◌*◌, ◌/◌, ◌%◌, List, [], ◌∷◌}

-- the numbers of a list as the digits of one, in a base, the first one lowest
abbrev pub packed : {X : Type 0} → ℕ → (X → ℕ) → List X → ℕ
packed base f [] = 0
packed base f (x ∷ xs) = packed base f xs * base + f x

-- the lowest digits of a number in a base, lowest first
abbrev pub digits : ℕ → ℕ → ℕ → List ℕ
digits base zero n = []
digits base (suc k) n = n % base ∷ digits base k (n / base)
