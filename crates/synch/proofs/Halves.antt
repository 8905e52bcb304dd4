-- Twelve status words in two machine words of six.
-- Assumes nothing.
use Rattle.std.proofs.Common.{◌≡◌, ℕ, zero, suc, ◌+◌, ◌*◌, ◌/◌, ◌%◌, ◌^◌, ◌<◌, ◌≤◌, List, Bor, ◌++◌, map, length, get_or, take, drop, sym, refl, ap, ◌∙◌, subst, ap₂, div-one, arith, length-drop}
use Rattle.std.proofs.lemmas.Nat.{shr-shr}
use Rattle.std.proofs.lemmas.List.FromFn.{fill_by_all}
use Rattle.std.proofs.lemmas.List.{map-append, take-append-drop, take_all, length-take-le}
use Rattle.terms.specs.declared.pair.Side.TheVariants.{Left, Right}
use Rattle.synch.specs.declared.standing.Standing.{Standing}
use Rattle.synch.specs.Packed.{packed, digits}
use Rattle.synch.specs.Status.{status_word, header_equal, error_good, sixth}
use Rattle.std.specs.List.{range_with_len}
use Rattle.synch.proofs.Counts.{one_if_le}
use Rattle.synch.proofs.Packed.{packed_lt, so_far, so_far_lt, digits_packed}

-- six bits make a number below 64
pub status_word_lt : (h : ℕ) (x : Standing) → status_word h x < 64
status_word_lt h x =
    omega (
      arith,
      one_if_le x.in_lock,
      one_if_le x.in_step,
      one_if_le (header_equal h x Left),
      one_if_le (error_good x Left),
      one_if_le (header_equal h x Right),
      one_if_le (error_good x Right),
    )

-- five words leave room for the sixth
pub half_room : (h : ℕ) (ys : List (Bor Standing)) (v : ℕ) → length ys ≤ 5 → v ≡ so_far 64 (status_word h) ys → v < 1073741824
half_room h ys v l p = so_far_lt 64 (status_word h) (omega arith) (status_word_lt h) 5 ys v l p

pub half_lt : (h : ℕ) (xs : List Standing) (v : ℕ) → length xs ≤ 6 → v ≡ packed 64 (status_word h) xs → v < 68719476736
half_lt h xs v l p = subst (λ (n : ℕ). n < 68719476736) (sym p) (packed_lt 64 (status_word h) (omega arith) (status_word_lt h) 6 xs l)

-- ---- the words of a half are its digits

get_or_digits : (k n p : ℕ) → p < k → get_or (digits 64 k n) p 0 ≡ sixth n p
get_or_digits zero n p h = absurd (omega arith)
get_or_digits (suc k) n zero h = ap (λ (m : ℕ). m % 64) (sym (div-one n))
get_or_digits (suc k) n (suc p) h =
    let up : 6 + 6 * p ≡ 6 * suc p = omega arith in
    get_or_digits k (n / 64) p (omega arith)
    ∙ ap (λ (m : ℕ). m % 64) (shr-shr n 6 (6 * p))
    ∙ ap (λ (m : ℕ). n / 2 ^ m % 64) up

length_digits : (k n : ℕ) → length (digits 64 k n) ≡ k
length_digits zero n = refl
length_digits (suc k) n = ap suc (length_digits k (n / 64))

six_digits : (n : ℕ) → digits 64 6 n ≡ map (sixth n) (range_with_len 0 6)
six_digits n = fill_by_all (sixth n) (digits 64 6 n) 6 0 (length_digits 6 n) (λ p h. get_or_digits 6 n p h)

-- ---- all of them

half_digits : (h : ℕ) (xs : List Standing) (v : ℕ) → length xs ≡ 6 → v ≡ packed 64 (status_word h) xs → digits 64 6 v ≡ map (status_word h) xs
half_digits h xs v l p =
    ap (digits 64 6) p
    ∙ ap (λ (n : ℕ). digits 64 n (packed 64 (status_word h) xs)) (sym l)
    ∙ digits_packed 64 (status_word h) (status_word_lt h) xs

pub both_halves : (h : ℕ) (xs ys zs : List Standing) (v w : ℕ) → length xs ≡ 12 → ys ≡ take 6 xs → zs ≡ take 6 (drop 6 xs)
    → v ≡ packed 64 (status_word h) ys → w ≡ packed 64 (status_word h) zs
    → map (sixth v) (range_with_len 0 6) ++ map (sixth w) (range_with_len 0 6) ≡ map (status_word h) xs
both_halves h xs ys zs v w l y z p q =
    ap₂ ◌++◌
    (sym (six_digits v) ∙ half_digits h (take 6 xs) v (length-take-le 6 xs (omega arith)) (p ∙ ap (packed 64 (status_word h)) y))
    (sym (six_digits w) ∙ half_digits h (drop 6 xs) w (omega (arith, length-drop 6 xs))
    (q ∙ ap (packed 64 (status_word h)) (z ∙ take_all 6 (drop 6 xs) (omega (arith, length-drop 6 xs)))))
    ∙ sym (map-append (status_word h) (take 6 xs) (drop 6 xs))
    ∙ ap (map (status_word h)) (take-append-drop 6 xs)
