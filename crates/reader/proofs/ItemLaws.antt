-- Words and clusters one after the other, step by step.
-- Assumes nothing.
use Rattle.std.proofs.Common.{◌≡◌, ℕ, zero, suc, ◌+◌, ◌*◌, ◌<◌, ◌≤◌, Bool, true, false, leb, ltb, Some, None, Ok, Err, Option, Result, List, [], ◌∷◌, ◌++◌, length, get_or, take, drop, sym, refl, ap, ◌∙◌, subst, ap₂, arith, length-append}
use Rattle.std.proofs.lemmas.Bool.{le-leb, leb-true, leb-false, lt-ltb, le-ltb, cond-true, cond-false, cond_both}
use Rattle.std.proofs.lemmas.List.{take_at, drop_at}
use Rattle.std.specs.List.{flat_map, position_from, slice_get}
use Rattle.std.specs.Option.{option_map, ok_or}
use Rattle.terms.specs.declared.refusal.Refusal.TheVariants.{NoSuchCluster}
use Rattle.layout.specs.Event.{Cluster, cluster_bytes, word, Content, suppressed, words}
use Rattle.reader.specs.declared.cluster.Cluster as parts
use Rattle.reader.specs.Asked.{clusters_of, present, cluster_of, words_of, word_of}
use Rattle.reader.specs.Parts.{cluster_value}
use Rattle.reader.proofs.Asks.{some_same, none_some, ok_err, ok_same}
use Rattle.reader.specs.Items.{words_in, clusters_from, clusters_in}
use Rattle.reader.specs.Questions.{number_in, ok_map, verdict, read_words}
use Rattle.reader.proofs.WordLaws.{number_of_word}
use Rattle.reader.proofs.Steps.{asked, refused, verdict_map}
use Rattle.faults.specs.declared.fault.RecordFault.{RecordFault}
use Rattle.faults.specs.declared.fault.RecordFault.TheVariants as records

-- bytes that belong to the cluster before are passed over
skip_bytes : (n : ℕ) (xs : List ℕ) → clusters_from n xs ≡ clusters_in (drop n xs)
skip_bytes zero xs = refl
skip_bytes (suc n) [] = refl
skip_bytes (suc n) (x ∷ xs) = skip_bytes n xs

pub one_cluster :
    (xs values rest : List ℕ) (n : ℕ) →
    2 ≤ length xs →
    n ≡ get_or xs 1 0 →
    n ≤ length (drop 2 xs) →
    values ≡ take n (drop 2 xs) →
    rest ≡ drop n (drop 2 xs) →
    clusters_in xs ≡ record { address = get_or xs 0 0; values = values } ∷ clusters_in rest
one_cluster [] values rest n two said fits front back = absurd (omega arith)
one_cluster (a ∷ []) values rest n two said fits front back = absurd (omega arith)
one_cluster (a ∷ m ∷ xs) values rest n two said fits front back =
    let whole : m ≤ length xs = subst (λ k. k ≤ length xs) said fits in
    let taken : take m xs ≡ values = ap (λ k. take k xs) (sym said) ∙ sym front in
    let left : clusters_from m xs ≡ clusters_in rest = skip_bytes m xs ∙ ap clusters_in (ap (λ k. drop k xs) (sym said) ∙ sym back) in
    cond-true (leb m (length xs)) _ _ (le-leb m (length xs) whole)
    ∙ ap₂ (λ v cs. record { address = a; values = v } ∷ cs) taken left

-- clusters that were written are the clusters of their bytes
pub clusters_back : (cs : List Cluster) → clusters_in (flat_map cluster_bytes cs) ≡ cs
clusters_back [] = refl
clusters_back (c ∷ cs) =
    let others : List ℕ = flat_map cluster_bytes cs in
    let n : ℕ = length c.values in
    let fits : n ≤ length (c.values ++ others) = omega (arith, length-append c.values others) in
    one_cluster (cluster_bytes c ++ others) c.values others n (omega arith) refl fits (sym (take_at c.values others n refl)) (sym (drop_at c.values others n refl))
    ∙ ap (λ ds. c ∷ ds) (clusters_back cs)

-- and so are words
pub words_back : (ws : List ℕ) → words_in (flat_map word ws) ≡ ws
words_back [] = refl
words_back (w ∷ ws) = ap₂ (λ v vs. v ∷ vs) (number_of_word w) (words_back ws)

-- the word of an index lies in two bytes, where there are so many; past them there is none
pub word_in : (xs : List ℕ) (i : ℕ) → 2 * i + 1 < length xs → slice_get (words_in xs) i ≡ Some (number_in (get_or xs (2 * i) 0) (get_or xs (2 * i + 1) 0))
word_in [] i h = absurd (omega arith)
word_in (x ∷ []) i h = absurd (omega arith)
word_in (lo ∷ hi ∷ xs) zero h = refl
word_in (lo ∷ hi ∷ xs) (suc i) h =
    let first : 2 * suc i ≡ suc (suc (2 * i)) = omega arith in
    let second : 2 * suc i + 1 ≡ suc (suc (2 * i + 1)) = omega arith in
    word_in xs i (omega arith)
    ∙ sym (ap₂ (λ a b. Some (number_in (get_or (lo ∷ hi ∷ xs) a 0) (get_or (lo ∷ hi ∷ xs) b 0))) first second)

pub word_past : (xs : List ℕ) (i : ℕ) → length xs < 2 * i + 2 → slice_get (words_in xs) i ≡ None
word_past [] i h = refl
word_past (x ∷ []) i h = refl
word_past (lo ∷ hi ∷ xs) zero h = absurd (omega arith)
word_past (lo ∷ hi ∷ xs) (suc i) h = word_past xs i (omega arith)

-- and of words that were written
pub word_at : (ws : List ℕ) (i : ℕ) → i < length ws → number_in (get_or (flat_map word ws) (2 * i) 0) (get_or (flat_map word ws) (2 * i + 1) 0) ≡ get_or ws i 0
word_at [] i h = absurd (omega arith)
word_at (w ∷ ws) zero h = number_of_word w
word_at (w ∷ ws) (suc i) h =
    let lo : 2 * suc i ≡ suc (suc (2 * i)) = omega arith in
    let hi : 2 * suc i + 1 ≡ suc (suc (2 * i + 1)) = omega arith in
    ap₂ (λ a b. number_in (get_or (flat_map word (w ∷ ws)) a 0) (get_or (flat_map word (w ∷ ws)) b 0)) lo hi ∙ word_at ws i (omega arith)

pub words_few : (xs : List ℕ) → 2 * length (words_in xs) ≤ length xs
words_few [] = omega arith
words_few (x ∷ []) = omega arith
words_few (lo ∷ hi ∷ xs) = let h = words_few xs in omega arith

few_from : (n : ℕ) (xs : List ℕ) → length (clusters_from n xs) ≤ length xs
few_from n [] = omega arith
few_from (suc n) (x ∷ xs) = let h = few_from n xs in omega arith
few_from zero (a ∷ []) = omega arith
few_from zero (a ∷ n ∷ xs) =
    let h = few_from n xs in
    cond_both (leb n (length xs)) _ _ (λ cs. length cs ≤ suc (suc (length xs))) (λ e. omega arith) (λ e. omega arith)

pub clusters_few : (xs : List ℕ) → length (clusters_in xs) ≤ length xs
clusters_few xs = few_from 0 xs

-- a word is above 1023
abbrev pub too_large : ℕ → Bool
too_large w = ltb 1023 w

-- the fault of the first word that is too large
abbrev pub word_fault : ℕ → Option ℕ → Result (Unit {0}) RecordFault
word_fault at None = Ok tt
word_fault at (Some i) = Err (records.TooLarge (at + 2 * i))

-- the first word that is too large is what reading the words comes to
words_verdict : (at n : ℕ) (xs : List ℕ) → word_fault at (position_from too_large n (words_in xs)) ≡ verdict (read_words (at + 2 * n) xs)
words_verdict at n [] = refl
words_verdict at n (x ∷ []) = refl
words_verdict at n (lo ∷ hi ∷ xs) = go (leb (number_in lo hi) 1023) refl (words_verdict at (n + 1) xs)
  where
    go : (b : Bool) → leb (number_in lo hi) 1023 ≡ b → word_fault at (position_from too_large (n + 1) (words_in xs)) ≡ verdict (read_words (at + 2 * (n + 1)) xs) → word_fault at (position_from too_large n (words_in (lo ∷ hi ∷ xs))) ≡ verdict (read_words (at + 2 * n) (lo ∷ hi ∷ xs))
    go true e others =
        let small : number_in lo hi ≤ 1023 = leb-true (number_in lo hi) 1023 e in
        let next : at + 2 * (n + 1) ≡ at + 2 * n + 2 = omega arith in
        ap (word_fault at) (cond-false (too_large (number_in lo hi)) _ _ (le-ltb 1023 (number_in lo hi) small))
        ∙ (others
        ∙ (ap (λ i. verdict (read_words i xs)) next
        ∙ (sym (verdict_map _ (read_words (at + 2 * n + 2) xs)) ∙ ap verdict (sym (asked _ _ _ e)))))
    go false e others =
        let large : 1023 < number_in lo hi = leb-false (number_in lo hi) 1023 e in
        ap (word_fault at) (cond-true (too_large (number_in lo hi)) _ _ (lt-ltb 1023 (number_in lo hi) large)) ∙ ap verdict (sym (refused _ _ _ e))

pub read_all : (at : ℕ) (xs : List ℕ) → word_fault at (position_from too_large 0 (words_in xs)) ≡ verdict (read_words at xs)
read_all at xs = let e : at + 2 * 0 ≡ at = omega arith in words_verdict at 0 xs ∙ ap (λ i. verdict (read_words i xs)) e

-- the word of an index, where the record has words
pub word_there : (c : Content) (left : List ℕ) (o : Option ℕ) (i : ℕ) → Some left ≡ words_of c → o ≡ slice_get left i → o ≡ word_of c i
word_there (suppressed m cs) left o i h n = absurd (none_some left (sym h))
word_there (words ws) left o i h n = n ∙ ap (λ l. slice_get l i) (some_same left ws h)

pub ok_or_some : {A E : Type 0} (o : Option A) (e : E) (x : A) → Ok x ≡ ok_or o e → o ≡ Some x
ok_or_some None e x h = absurd (ok_err e x h)
ok_or_some (Some y) e x h = ap Some (sym (ok_same x y h))

-- a cluster that is there, or the refusal
there : (o : Option parts.Cluster) → ok_map cluster_value (ok_or o NoSuchCluster) ≡ present (option_map cluster_value o)
there None = refl
there (Some c) = refl

-- the cluster of an index, where the record has clusters
pub cluster_there : (c : Content) (left : List Cluster) (o : Option parts.Cluster) (i : ℕ) → Some left ≡ clusters_of c → option_map cluster_value o ≡ slice_get left i → ok_map cluster_value (ok_or o NoSuchCluster) ≡ cluster_of c i
cluster_there (suppressed m cs) left o i h n = there o ∙ ap present (n ∙ ap (λ l. slice_get l i) (some_same left cs h))
cluster_there (words ws) left o i h n = absurd (none_some left (sym h))
