-- What a word of a call script says as a number: decimal numbers, setting words and bytes.
-- Assumes nothing.
use Rattle.std.specs.Prelude.{ℕ, ◌+◌, ◌-◌, ◌*◌, Bool, cond, ◌&&◌, List, [], ◌∷◌, length, Some, None, Option, nat_le, nat_lt}
use Rattle.std.specs.Char.{digit_value}

-- what comes of a value, if there is one
abbrev pub and_then : {A B : Type 0} → Option A → (A → Option B) → Option B
and_then None f = None
and_then (Some x) f = f x

-- a value that is asked for only where a test is passed
abbrev pub asked : {A : Type 0} → Bool → Option A → Option A
asked b o = cond b o None

-- a character lies between two others
abbrev pub between : ℕ → ℕ → ℕ → Bool
between low high b = nat_le low b && nat_le b high

-- the decimal digits: the characters 0 to 9
abbrev pub decimal_digit : ℕ → Option ℕ
decimal_digit b = asked (between 48 57 b) (Some (b - 48))

-- the hexadecimal digits: 0 to 9, then A to F in either case
abbrev pub hex_digit : ℕ → Option ℕ
hex_digit b =
    cond (between 48 57 b) (Some (b - 48))
    (cond (between 65 70 b) (Some (b - 55)) (asked (between 97 102 b) (Some (b - 87))))

-- the digits of a base up to 36: 0 to 9, then the letters in either case
abbrev pub digit_in : ℕ → ℕ → Option ℕ
digit_in base b = asked (nat_lt (digit_value b) base) (Some (digit_value b))

-- the number that digits write, highest first, behind the number n that the digits before them wrote; none where
-- a character is no digit
abbrev pub written : (ℕ → Option ℕ) → ℕ → ℕ → List ℕ → Option ℕ
written digit base n [] = Some n
written digit base n (b ∷ bs) = and_then (digit b) (λ d. written digit base (base * n + d) bs)

-- a number up to a limit
abbrev pub up_to : ℕ → Option ℕ → Option ℕ
up_to limit o = and_then o (λ n. asked (nat_le n limit) (Some n))

-- a number: one or more decimal digits and nothing else, up to a limit
abbrev pub number_in : ℕ → List ℕ → Option ℕ
number_in limit word = asked (nat_le 1 (length word)) (up_to limit (written decimal_digit 10 0 word))

-- a setting word: one to eight hexadecimal digits
abbrev pub setting_in : List ℕ → Option ℕ
setting_in word = asked (between 1 8 (length word)) (written hex_digit 16 0 word)

-- a byte: two hexadecimal digits
abbrev pub byte_in : List ℕ → Option ℕ
byte_in [] = None
byte_in (high ∷ []) = None
byte_in (high ∷ low ∷ []) = and_then (hex_digit high) (λ h. and_then (hex_digit low) (λ l. Some (16 * h + l)))
byte_in (high ∷ low ∷ more ∷ rest) = None

-- bytes one after the other, two hexadecimal digits each
abbrev pub bytes_in : List ℕ → Option (List ℕ)
bytes_in [] = Some []
bytes_in (high ∷ []) = None
bytes_in (high ∷ low ∷ rest) =
    and_then (byte_in (high ∷ low ∷ [])) (λ b. and_then (bytes_in rest) (λ bs. Some (b ∷ bs)))
