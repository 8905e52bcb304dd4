-- Numbers in two bytes: what is written is read back, and what was read is what would be written.
-- Assumes nothing.
use Rattle.std.proofs.Common.{◌≡◌, ℕ, suc, ◌+◌, ◌*◌, ◌/◌, ◌%◌, ◌<◌, ◌≤◌, leb, Bool, true, false, List, [], ◌∷◌, ◌++◌, length, take, drop, None, Ok, Err, Result, refl, ap, ◌∙◌, subst, ap₂, arith}
use Rattle.std.proofs.lemmas.Bool.{leb-true, le-leb}
use Rattle.std.specs.List.{flat_map, AllByRecursion}
use Rattle.layout.specs.Event.{Byte, Cluster, TenBits, suppressed, word}
use Rattle.faults.specs.declared.fault.ClusterFault.{ClusterFault}
use Rattle.faults.specs.declared.fault.RecordFault.{RecordFault}
use Rattle.faults.specs.declared.fault.RecordFault.TheVariants as records
use Rattle.reader.specs.Questions.{ok_map, err_map, verdict, and_then, ask, number_in, read_words, read_clusters, read_suppressed}
use Rattle.reader.proofs.Asks.{ok_same, ask_ok, ask_yes, ok_map_ok}

-- two bytes are the word of the number in them
pub word_of_number : (lo hi : ℕ) → lo < 256 → word (number_in lo hi) ≡ lo ∷ hi ∷ []
word_of_number lo hi h =
    let low : (lo + 256 * hi) % 256 ≡ lo = omega arith in
    let high : (lo + 256 * hi) / 256 ≡ hi = omega arith in ap₂ (λ (a b : ℕ). a ∷ b ∷ []) low high

-- and the number in a word is the one that was written
pub number_of_word : (w : ℕ) → number_in (w % 256) (w / 256) ≡ w
number_of_word w = omega arith

-- words that were read are ten-bit words, and their bytes are those that were read
pub words_sound :
    (at : ℕ) (xs ws : List ℕ) →
    length xs % 2 ≡ 0 →
    AllByRecursion Byte xs →
    read_words at xs ≡ Ok ws →
    (flat_map word ws ≡ xs) × (2 * length ws ≡ length xs) × AllByRecursion TenBits ws
words_sound at [] ws even bytes h =
    subst
    (λ (ws : List ℕ). (flat_map word ws ≡ []) × (2 * length ws ≡ 0) × AllByRecursion TenBits ws)
    (ok_same [] ws h)
    (refl, omega arith, tt)
words_sound at (x ∷ []) ws even bytes h = absurd (omega arith)
words_sound at (lo ∷ hi ∷ xs) ws even bytes h =
    let one = ask_ok (leb (number_in lo hi) 1023) (records.TooLarge at) _ ws h in
    let two = ok_map_ok (λ (vs : List ℕ). number_in lo hi ∷ vs) (read_words (at + 2) xs) ws one.1 in
    let even_below : length xs % 2 ≡ 0 = omega arith in
    let below = words_sound (at + 2) xs two.0 even_below bytes.1.1 two.1 in
    let count : 2 * suc (length two.0) ≡ suc (suc (length xs)) = omega (arith, below.1) in
    subst
    (λ (ws : List ℕ). (flat_map word ws ≡ lo ∷ hi ∷ xs) × (2 * length ws ≡ length (lo ∷ hi ∷ xs)) × AllByRecursion TenBits ws)
    two.2 (
      ap₂ (λ (a b : List ℕ). a ++ b) (word_of_number lo hi bytes.0) below.0,
      count,
      (leb-true (number_in lo hi) 1023 one.0, below.2),
    )

-- ten-bit words are read back
pub words_complete : (at : ℕ) (ws : List ℕ) → AllByRecursion TenBits ws → read_words at (flat_map word ws) ≡ Ok ws
words_complete at [] h = refl
words_complete at (w ∷ ws) h =
    let n : ℕ = number_in (w % 256) (w / 256) in
    let same : n ≡ w = number_of_word w in
    let small : n ≤ 1023 = omega (arith, h.0) in
    ask_yes (leb n 1023) (records.TooLarge at) _ (w ∷ ws) (le-leb n 1023 small)
    (ap (ok_map (λ (vs : List ℕ). n ∷ vs)) (words_complete (at + 2) ws h.1) ∙ ap (λ (k : ℕ). Ok (k ∷ ws)) same)

-- the first four bytes of a zero-suppressed content are two words, its common modes; the clusters lie behind
pub suppressed_asked :
    (at : ℕ) (xs : List ℕ) (modes : Result (Unit {0}) RecordFault) (body : Result (Unit {0}) ClusterFault) →
    4 ≤ length xs →
    modes ≡ verdict (read_words at (take 4 xs)) →
    body ≡ verdict (read_clusters 0 None (at + 4) (drop 4 xs)) →
    and_then modes (λ _. err_map records.Cluster body) ≡ verdict (read_suppressed at xs)
suppressed_asked at [] modes body long m b = absurd (omega arith)
suppressed_asked at (x ∷ []) modes body long m b = absurd (omega arith)
suppressed_asked at (x ∷ y ∷ []) modes body long m b = absurd (omega arith)
suppressed_asked at (x ∷ y ∷ z ∷ []) modes body long m b = absurd (omega arith)
suppressed_asked at (lo ∷ hi ∷ lo₁ ∷ hi₁ ∷ xs) modes body long m b =
    ap₂ (λ q r. and_then q (λ _. err_map records.Cluster r)) m b
    ∙ go (leb (number_in lo hi) 1023) (leb (number_in lo₁ hi₁) 1023) (read_clusters 0 None (at + 4) xs)
  where
    go :
        (left right : Bool) (r : Result (List Cluster) ClusterFault) →
        and_then
        (verdict (ask left (records.TooLarge at) (ok_map (λ ws. number_in lo hi ∷ ws) (ask right (records.TooLarge (at + 2)) (ok_map (λ ws. number_in lo₁ hi₁ ∷ ws) (Ok []))))))
        (λ _. err_map records.Cluster (verdict r))
        ≡ verdict (ask left (records.TooLarge at) (ask right (records.TooLarge (at + 2)) (err_map records.Cluster (ok_map (suppressed (record { left = number_in lo hi; right = number_in lo₁ hi₁ })) r))))
    go true true (Ok cs) = refl
    go true true (Err e) = refl
    go true false r = refl
    go false right r = refl
