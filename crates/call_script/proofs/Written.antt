-- What the digits of a word write, one digit further.
use Rattle.std.proofs.Common.{◌≡◌, ℕ, ◌+◌, ◌*◌, ◌^◌, ◌<◌, ◌≤◌, cond, ◌&&◌, List, [], ◌∷◌, ◌++◌, length, get_or, drop, Some, None, Option, sym, refl, ap, ◌∙◌, ap₂, arith, lit<, pow-add, le-leb}
use native.Mathlib.Nat.{pow-le-pow_right}
use Rattle.std.proofs.Math.Nat.{mul-le-mul_right}
use Rattle.std.proofs.lemmas.Bool.Decides.{nat_tests}
use borrow.Author.Tests.{lt-leb}
use Rattle.std.proofs.lemmas.List.{append_assoc, at_drop_more, at_drop_all}
use Rattle.call_script.specs.Numbers.{and_then, asked, written, up_to, digit_in, decimal_digit, number_in, hex_digit, setting_in, byte_in, bytes_in}

pub written_more : (digit : ℕ → Option ℕ) (base n : ℕ) (xs : List ℕ) (i d : ℕ) → i < length xs → Some d ≡ digit (get_or xs i 0) → written digit base n (drop i xs) ≡ written digit base (base * n + d) (drop (i + 1) xs)
written_more digit base n xs i d lt e =
    at_drop_more (written digit base n) xs i 0 lt
    ∙ ap (λ o. and_then o (λ x. written digit base (base * n + x) (drop (i + 1) xs))) (sym e)

pub written_none : (digit : ℕ → Option ℕ) (base n : ℕ) (xs : List ℕ) (i : ℕ) → i < length xs → None ≡ digit (get_or xs i 0) → written digit base n (drop i xs) ≡ None
written_none digit base n xs i lt e =
    at_drop_more (written digit base n) xs i 0 lt
    ∙ ap (λ o. and_then o (λ x. written digit base (base * n + x) (drop (i + 1) xs))) (sym e)

pub written_all : (digit : ℕ → Option ℕ) (base n : ℕ) (xs : List ℕ) (i : ℕ) → length xs ≤ i → written digit base n (drop i xs) ≡ Some n
written_all digit base n xs i ge = at_drop_all (written digit base n) xs i ge

-- a digit behind a number does not make it smaller
grows : (base n d limit : ℕ) → 0 < base → limit < n → limit < base * n + d
grows base n d limit some lt =
    let one : 1 ≤ base = omega arith in
    let more : 1 * n ≤ base * n = mul-le-mul_right n one in
    omega (arith, more)

-- no digit behind a number makes it smaller
pub too_large : (limit base : ℕ) (digit : ℕ → Option ℕ) (bs : List ℕ) (n : ℕ) → 0 < base → limit < n → up_to limit (written digit base n bs) ≡ None
too_large limit base digit [] n some lt = ap (λ b. cond b (Some n) None) (lt-leb n limit lt)
too_large limit base digit (b ∷ bs) n some lt =
    elim (digit b) as (λ o. up_to limit (and_then o (λ d. written digit base (base * n + d) bs)) ≡ None) [
      | None ↦ refl
      | Some d ↦ too_large limit base digit bs (base * n + d) some (grows base n d limit some lt)
    ]

pub small : (limit n : ℕ) → n ≤ limit → up_to limit (Some n) ≡ Some n
small limit n le = ap (λ b. cond b (Some n) None) (le-leb n limit le)

-- what a reading of digits takes at each digit and at its end
pub ruleset one_digit = (written_more, written_none, written_all, small)

-- where two readings of a digit agree, so do the numbers that they write
pub written_same : (one other : ℕ → Option ℕ) (base n : ℕ) (bs : List ℕ) → ((b : ℕ) → one b ≡ other b) → written one base n bs ≡ written other base n bs
written_same one other base n [] same = refl
written_same one other base n (b ∷ bs) same =
    ap (λ o. and_then o (λ d. written one base (base * n + d) bs)) (same b)
    ∙ elim (other b) as (λ o. and_then o (λ d. written one base (base * n + d) bs) ≡ and_then o (λ d. written other base (base * n + d) bs)) [
      | None ↦ refl
      | Some d ↦ written_same one other base (base * n + d) bs same
    ]

pub decimal_same : (b : ℕ) → digit_in 10 b ≡ decimal_digit b
decimal_same b = grind (arith, nat_tests)

pub hex_same : (b : ℕ) → digit_in 16 b ≡ hex_digit b
hex_same b = grind (arith, nat_tests)

-- a number, by what its digits write
pub number_is : (limit : ℕ) (word : List ℕ) → 0 < length word → up_to limit (written (digit_in 10) 10 0 word) ≡ number_in limit word
number_is limit word lt =
    ap (up_to limit) (written_same (digit_in 10) decimal_digit 10 0 word decimal_same)
    ∙ sym (ap (λ b. asked b (up_to limit (written decimal_digit 10 0 word))) (le-leb 1 (length word) (omega arith)))

hex_below : (b d : ℕ) → Some d ≡ digit_in 16 b → d < 16
hex_below b d e = grind (arith, nat_tests)

-- eight hexadecimal digits fit in 32 bits
hex_fits : (bs : List ℕ) (n i : ℕ) → n < 16 ^ i → i + length bs ≤ 8 → up_to 4294967295 (written (digit_in 16) 16 n bs) ≡ written (digit_in 16) 16 n bs
hex_fits [] n i lt few =
    let eight : 16 ^ i ≤ 16 ^ 8 = pow-le-pow_right {n = 16} (lit< tt) {i = i} {j = 8} (omega arith) in
    small 4294967295 n (omega arith)
hex_fits (b ∷ bs) n i lt few =
    elim (digit_in 16 b) as (λ o. o ≡ digit_in 16 b → up_to 4294967295 (and_then o (λ d. written (digit_in 16) 16 (16 * n + d) bs)) ≡ and_then o (λ d. written (digit_in 16) 16 (16 * n + d) bs)) [
      | None ↦ λ e. refl
      | Some d ↦ λ e.
          let digit : d < 16 = hex_below b d e in
          hex_fits bs (16 * n + d) (i + 1) (omega (arith, pow-add 16 i 1)) (omega arith)
    ] refl

-- a setting word, by what its digits write
pub setting_is : (word : List ℕ) → 0 < length word → length word ≤ 8 → up_to 4294967295 (written (digit_in 16) 16 0 word) ≡ setting_in word
setting_is word some few =
    hex_fits word 0 0 (lit< tt) (omega arith)
    ∙ written_same (digit_in 16) hex_digit 16 0 word hex_same
    ∙ sym (ap (λ b. asked b (written hex_digit 16 0 word)) (ap₂ ◌&&◌ (le-leb 1 (length word) (omega arith)) (le-leb (length word) 8 few)))

-- a byte more
pub bytes_more : (high low b : ℕ) (rest done : List ℕ) → Some b ≡ byte_in (high ∷ low ∷ []) → and_then (bytes_in rest) (λ bs. Some ((done ++ b ∷ []) ++ bs)) ≡ and_then (bytes_in (high ∷ low ∷ rest)) (λ bs. Some (done ++ bs))
bytes_more high low b rest done e =
    let go : and_then (bytes_in rest) (λ bs. Some ((done ++ b ∷ []) ++ bs)) ≡ and_then (and_then (bytes_in rest) (λ bs. Some (b ∷ bs))) (λ bs. Some (done ++ bs)) =
    elim (bytes_in rest) as (λ o. and_then o (λ bs. Some ((done ++ b ∷ []) ++ bs)) ≡ and_then (and_then o (λ bs. Some (b ∷ bs))) (λ bs. Some (done ++ bs))) [
      | None ↦ refl
      | Some bs ↦ ap Some (append_assoc done (b ∷ []) bs)
    ] in
    go ∙ ap (λ o. and_then (and_then o (λ x. and_then (bytes_in rest) (λ bs. Some (x ∷ bs)))) (λ bs. Some (done ++ bs))) e

-- digits that are a byte are two
pub chunk_more : (digits rest done : List ℕ) (b : ℕ) → Some b ≡ byte_in digits → and_then (bytes_in rest) (λ bs. Some ((done ++ b ∷ []) ++ bs)) ≡ and_then (bytes_in (digits ++ rest)) (λ bs. Some (done ++ bs))
chunk_more [] rest done b e = cc
chunk_more (high ∷ []) rest done b e = cc
chunk_more (high ∷ low ∷ []) rest done b e = bytes_more high low b rest done e
chunk_more (high ∷ low ∷ more ∷ others) rest done b e = cc
