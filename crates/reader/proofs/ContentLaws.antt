-- The content of a record: what is written is read back, and what was read is what would be written.
-- Assumes nothing.
use Rattle.std.proofs.Common.{◌≡◌, ℕ, ◌+◌, ◌*◌, ◌/◌, ◌%◌, ◌≤◌, leb, List, [], ◌∷◌, ◌++◌, length, None, Ok, Result, ap, ◌∙◌, subst, ap₂, arith}
use Rattle.std.proofs.lemmas.Bool.{leb-true, le-leb}
use Rattle.std.specs.List.{flat_map, AllByRecursion}
use Rattle.terms.specs.declared.pair.Pair.{Pair}
use Rattle.layout.specs.declared.kind.Kind.{Kind}
use Rattle.layout.specs.declared.kind.Kind.TheVariants.{ZeroSuppressed, ProcessedRaw, VirginRaw}
use Rattle.layout.specs.Event.{Byte, TenBits, Cluster, Content, suppressed, words, ContentOk, word, modes_bytes, content_bytes, shortest, longest}
use Rattle.faults.specs.declared.fault.ClusterFault.{ClusterFault}
use Rattle.faults.specs.declared.fault.RecordFault.TheVariants as records
use Rattle.reader.specs.Questions.{ok_map, err_map, number_in, read_clusters, read_words, read_suppressed, read_content}
use Rattle.reader.proofs.Asks.{ask_ok, ask_yes, ok_map_ok, err_map_ok}
use Rattle.reader.proofs.WordLaws.{word_of_number, number_of_word, words_sound, words_complete}
use Rattle.reader.proofs.ClusterLaws.{chained_from_spaced, spaced_from_chained, clusters_sound, clusters_complete}

-- a content of a kind, and its bytes
abbrev Written : Kind → List ℕ → Content → Type 0
Written k xs c = ContentOk k c × (content_bytes c ≡ xs)

suppressed_sound :
    (at : ℕ) (xs : List ℕ) (c : Content) → 4 ≤ length xs → AllByRecursion Byte xs → read_suppressed at xs ≡ Ok c → Written ZeroSuppressed xs c
suppressed_sound at [] c room bytes h = absurd (omega arith)
suppressed_sound at (x ∷ []) c room bytes h = absurd (omega arith)
suppressed_sound at (x ∷ y ∷ []) c room bytes h = absurd (omega arith)
suppressed_sound at (x ∷ y ∷ z ∷ []) c room bytes h = absurd (omega arith)
suppressed_sound at (x ∷ y ∷ z ∷ t ∷ xs) c room bytes h =
    let l : ℕ = number_in x y in
    let r : ℕ = number_in z t in
    let m : Pair ℕ = record { left = l; right = r } in
    let one = ask_ok (leb l 1023) (records.TooLarge at) _ c h in
    let two = ask_ok (leb r 1023) (records.TooLarge (at + 2)) _ c one.1 in
    let three = err_map_ok records.Cluster (ok_map (suppressed m) (read_clusters 0 None (at + 4) xs)) c two.1 in
    let four = ok_map_ok (suppressed m) (read_clusters 0 None (at + 4) xs) c three in
    let below = clusters_sound None (at + 4) xs four.0 bytes.1.1.1.1 four.1 in
    let both : modes_bytes m ≡ x ∷ y ∷ z ∷ t ∷ [] =
    ap₂ (λ (a b : List ℕ). a ++ b) (word_of_number x y bytes.0) (word_of_number z t bytes.1.1.0) in
    subst
    (λ (c : Content). Written ZeroSuppressed (x ∷ y ∷ z ∷ t ∷ xs) c)
    four.2 (
      (leb-true l 1023 one.0, leb-true r 1023 two.0, spaced_from_chained four.0 below.1, below.2),
      ap₂ (λ (a b : List ℕ). a ++ b) both below.0,
    )

raw_sound :
    (at : ℕ) (xs : List ℕ) (c : Content) →
    length xs ≡ 512 →
    AllByRecursion Byte xs →
    ok_map words (read_words at xs) ≡ Ok c →
    (ws : List ℕ) × (words ws ≡ c) × (length ws ≡ 256) × AllByRecursion TenBits ws × (flat_map word ws ≡ xs)
raw_sound at xs c size bytes h =
    let one = ok_map_ok words (read_words at xs) c h in
    let even : length xs % 2 ≡ 0 = omega arith in
    let below = words_sound at xs one.0 even bytes one.1 in
    let twice : 2 * length one.0 ≡ length xs = below.1 in (one.0, one.2, omega arith, below.2, below.0)

-- a content that was read is one that a record of its kind may have, and its bytes are those that were read
pub content_sound :
    (k : Kind) (at : ℕ) (xs : List ℕ) (c : Content) →
    shortest k ≤ 3 + length xs →
    3 + length xs ≤ longest k →
    AllByRecursion Byte xs →
    read_content k at xs ≡ Ok c →
    ContentOk k c × (content_bytes c ≡ xs)
content_sound ZeroSuppressed at xs c least most bytes h = suppressed_sound at xs c (omega arith) bytes h
content_sound ProcessedRaw at xs c least most bytes h =
    let r = raw_sound at xs c (omega arith) bytes h in
    subst (λ (c : Content). Written ProcessedRaw xs c) r.1 ((r.2, r.3), r.4)
content_sound VirginRaw at xs c least most bytes h =
    let r = raw_sound at xs c (omega arith) bytes h in subst (λ (c : Content). Written VirginRaw xs c) r.1 ((r.2, r.3), r.4)

suppressed_complete :
    (at : ℕ) (m : Pair ℕ) (cs : List Cluster) →
    ContentOk ZeroSuppressed (suppressed m cs) →
    read_suppressed at (content_bytes (suppressed m cs)) ≡ Ok (suppressed m cs)
suppressed_complete at m cs h =
    let l : ℕ = number_in (m.left % 256) (m.left / 256) in
    let r : ℕ = number_in (m.right % 256) (m.right / 256) in
    let same_l : l ≡ m.left = number_of_word m.left in
    let same_r : r ≡ m.right = number_of_word m.right in
    let small_l : l ≤ 1023 = omega (arith, h.0) in
    let small_r : r ≤ 1023 = omega (arith, h.1) in
    let modes : Pair ℕ = record { left = l; right = r } in
    let same : modes ≡ m = ap₂ (λ (a b : ℕ). record { left = a; right = b }) same_l same_r in
    ask_yes (leb l 1023) (records.TooLarge at) _ (suppressed m cs) (le-leb l 1023 small_l)
    (ask_yes (leb r 1023) (records.TooLarge (at + 2)) _ (suppressed m cs) (le-leb r 1023 small_r)
    (ap
    (λ (a : Result (List Cluster) ClusterFault). err_map records.Cluster (ok_map (suppressed modes) a))
    (clusters_complete None (at + 4) cs (chained_from_spaced cs h.2))
    ∙ ap (λ (p : Pair ℕ). Ok (suppressed p cs)) same))

raw_complete : (at : ℕ) (ws : List ℕ) → AllByRecursion TenBits ws → ok_map words (read_words at (flat_map word ws)) ≡ Ok (words ws)
raw_complete at ws h = ap (ok_map words) (words_complete at ws h)

-- what is written is read back
pub content_complete : (k : Kind) (at : ℕ) (c : Content) → ContentOk k c → read_content k at (content_bytes c) ≡ Ok c
content_complete ZeroSuppressed at (suppressed m cs) h = suppressed_complete at m cs h
content_complete ZeroSuppressed at (words ws) h = absurd h
content_complete ProcessedRaw at (suppressed m cs) h = absurd h
content_complete ProcessedRaw at (words ws) h = raw_complete at ws h.1
content_complete VirginRaw at (suppressed m cs) h = absurd h
content_complete VirginRaw at (words ws) h = raw_complete at ws h.1
