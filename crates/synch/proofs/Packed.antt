-- Numbers side by side in one word.
-- Assumes nothing.
use Rattle.std.proofs.Common.{◌≡◌, ℕ, zero, suc, ◌+◌, ◌-◌, ◌*◌, ◌^◌, ◌<◌, ◌≤◌, List, [], ◌∷◌, Bor, map, length, get_or, drop, sym, refl, ap, ◌∙◌, subst, ap₂, le_of_suc-le-suc, not-suc-le-zero, mul_comm, pow-suc, arith, length-drop, drop-cons}
use mathlib.Core.List.{reverse}
use Rattle.std.proofs.lemmas.List.{length-map, reverse-reverse, length-reverse}
use native.Mathlib.Nat.{one-le-pow}
use Rattle.std.proofs.lemmas.Nat.{mul-add-lt, div-mul-add, mod-mul-add}
use Rattle.synch.specs.Packed.{packed, digits}

-- one more number at the front, as a loop from the last to the first adds it
pub packed_again : {X : Type 0} (B : ℕ) (f : X → ℕ) (xs : List X) (i v b : ℕ) (d : X) → 0 < i → i ≤ length xs
    → v ≡ packed B f (drop i xs) → b ≡ f (get_or xs (i - 1) d) → B * v + b ≡ packed B f (drop (i - 1) xs)
packed_again B f xs i v b d h k p q =
    let up : i ≡ suc (i - 1) = omega arith in
    ap₂ ◌+◌ (mul_comm B v ∙ ap (λ (n : ℕ). n * B) (p ∙ ap (λ (j : ℕ). packed B f (drop j xs)) up)) q
    ∙ sym (ap (packed B f) (drop-cons xs (i - 1) d (omega arith)))

-- n digits stay below the n-th power of the base
pub packed_lt : {X : Type 0} (B : ℕ) (f : X → ℕ) → 0 < B → ((x : X) → f x < B) → (n : ℕ) (xs : List X) → length xs ≤ n → packed B f xs < B ^ n
packed_lt B f z h n [] k = one-le-pow n B z
packed_lt B f z h zero (x ∷ xs) k = absurd (not-suc-le-zero k)
packed_lt B f z h (suc n) (x ∷ xs) k =
    subst (λ (m : ℕ). packed B f xs * B + f x < m) (mul_comm B (B ^ n) ∙ sym (pow-suc B n))
    (mul-add-lt (packed B f xs) B (f x) (B ^ n) (packed_lt B f z h n xs (le_of_suc-le-suc k)) (h x))

-- so there is room for one more
pub packed_room : {X : Type 0} (B : ℕ) (f : X → ℕ) → 0 < B → ((x : X) → f x < B) → (n : ℕ) (xs : List X) (i v : ℕ) → length xs ≤ suc n → 0 < i
    → v ≡ packed B f (drop i xs) → v < B ^ n
packed_room B f z h n xs i v k l p =
    subst (λ (m : ℕ). m < B ^ n) (sym p) (packed_lt B f z h n (drop i xs) (omega (arith, length-drop i xs)))

-- ---- a loop over a slice from its last to its first, which has yielded ys

-- the numbers so far in one word
abbrev pub so_far : {X : Type 0} → ℕ → (X → ℕ) → List (Bor X) → ℕ
so_far B f ys = packed B f (reverse (map (λ y. y.now) ys))

pub so_far_lt : {X : Type 0} (B : ℕ) (f : X → ℕ) → 0 < B → ((x : X) → f x < B) → (n : ℕ) (ys : List (Bor X)) (v : ℕ) → length ys ≤ n
    → v ≡ so_far B f ys → v < B ^ n
so_far_lt B f z h n ys v k p =
    subst (λ (m : ℕ). m < B ^ n) (sym p)
    (packed_lt B f z h n (reverse (map (λ y. y.now) ys))
    (omega (arith, length-reverse (map (λ y. y.now) ys), length-map ys (λ y. y.now))))

pub so_far_all : {X : Type 0} (B : ℕ) (f : X → ℕ) (xs : List X) (ys : List (Bor X)) → map (λ y. y.now) ys ≡ reverse xs → so_far B f ys ≡ packed B f xs
so_far_all B f xs ys h = ap (packed B f) (ap reverse h ∙ reverse-reverse xs)

-- ---- and back

-- the digits of a packed list are its numbers
pub digits_packed : {X : Type 0} (B : ℕ) (f : X → ℕ) → ((x : X) → f x < B) → (xs : List X) → digits B (length xs) (packed B f xs) ≡ map f xs
digits_packed B f h [] = refl
digits_packed B f h (x ∷ xs) =
    ap₂ ◌∷◌ (mod-mul-add (packed B f xs) B (f x) (h x))
    (ap (digits B (length xs)) (div-mul-add (packed B f xs) B (f x) (h x)) ∙ digits_packed B f h xs)
