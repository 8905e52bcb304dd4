-- Bytes written over a buffer, one part after the other.
use Rattle.std.proofs.Common.{◌≡◌, ℕ, ◌+◌, ◌-◌, ◌<◌, ◌≤◌, List, [], ◌∷◌, ◌++◌, map, length, get_or, take, drop, set, sym, refl, ap, ◌∙◌, add-zero, add_assoc, zero-add, add-one, arith}
use borrow.Rule.Slice.PartMut.{put_mid}
use Rattle.std.specs.List.{flat_map}
use Rattle.std.proofs.lemmas.List.{append_assoc, append-nil, length-append, length-take-le, length-drop, take_at, drop_at, drop-drop, drop_more, drop_all, take-append-drop, take_rest, set_split}
use Rattle.terms.specs.declared.pair.Pair.{Pair}
use Rattle.layout.specs.declared.run.Run.{Run}
use Rattle.layout.specs.Event.{word, modes_bytes, cluster_bytes}
use Rattle.layout.specs.Contents.{cluster_on}
use Rattle.layout.specs.Writing.{over}
use Rattle.layout.specs.ContentsLemmas.{values_on}

-- nothing written
pub over_none : (buffer : List ℕ) (at : ℕ) → over buffer at [] ≡ buffer
over_none buffer at = ap (λ n. take at buffer ++ drop n buffer) (add-zero at) ∙ take-append-drop at buffer

-- written at the front
pub over_front : (buffer bytes : List ℕ) → over buffer 0 bytes ≡ bytes ++ drop (length bytes) buffer
over_front buffer bytes = ap (λ n. bytes ++ drop n buffer) (zero-add (length bytes))

-- a buffer keeps its length
pub length_over : (buffer : List ℕ) (at : ℕ) (bytes : List ℕ) → at + length bytes ≤ length buffer → length (over buffer at bytes) ≡ length buffer
length_over buffer at bytes h =
    let a = length-append (take at buffer) (bytes ++ drop (at + length bytes) buffer) in
    let b = length-append bytes (drop (at + length bytes) buffer) in
    let room : at ≤ length buffer = omega arith in
    let t = length-take-le at buffer room in
    let d = length-drop (at + length bytes) buffer in omega arith

-- one part, and the next behind it
pub over_append :
    (buffer : List ℕ) (at : ℕ) (first second : List ℕ) →
    at + length first ≤ length buffer →
    over (over buffer at first) (at + length first) second ≡ over buffer at (first ++ second)
over_append buffer at first second h =
    let rest : List ℕ = drop (at + length first) buffer in
    let front : List ℕ = take at buffer ++ first in
    let room : at ≤ length buffer = omega arith in
    let long : length front ≡ at + length first =
    length-append (take at buffer) first ∙ ap (λ n. n + length first) (length-take-le at buffer room) in
    let whole : over buffer at first ≡ front ++ rest = sym (append_assoc (take at buffer) first rest) in
    let taken : take (at + length first) (over buffer at first) ≡ front =
    ap (take (at + length first)) whole ∙ take_at front rest (at + length first) long in
    let behind : drop (at + length first + length second) (over buffer at first) ≡ drop (at + length (first ++ second)) buffer =
    sym (drop-drop (length second) (at + length first) (over buffer at first))
    ∙ ap (λ xs. drop (length second) (drop (at + length first) xs)) whole
    ∙ ap (drop (length second)) (drop_at front rest (at + length first) long)
    ∙ drop-drop (length second) (at + length first) buffer
    ∙ ap (λ n. drop n buffer) (add_assoc at (length first) (length second) ∙ ap (λ n. at + n) (sym (length-append first second))) in
    ap (λ xs. xs ++ (second ++ drop (at + length first + length second) (over buffer at first))) taken
    ∙ ap (λ xs. front ++ (second ++ xs)) behind
    ∙ append_assoc (take at buffer) first (second ++ drop (at + length (first ++ second)) buffer)
    ∙ ap (λ xs. take at buffer ++ xs) (sym (append_assoc first second (drop (at + length (first ++ second)) buffer)))

-- one byte
pub over_byte : (buffer : List ℕ) (at byte : ℕ) → at < length buffer → set buffer at byte ≡ over buffer at (byte ∷ [])
over_byte buffer at byte h = set_split buffer at byte h ∙ ap (λ n. take at buffer ++ byte ∷ drop n buffer) (sym (add-one at))

-- two bytes
pub over_two : (buffer : List ℕ) (at x y : ℕ) → at + 2 ≤ length buffer → set (set buffer at x) (at + 1) y ≡ over buffer at (x ∷ y ∷ [])
over_two buffer at x y h =
    let first : at < length buffer = omega arith in
    let one : at + 1 ≤ length buffer = omega arith in
    let long = length_over buffer at (x ∷ []) one in
    let second : at + 1 < length (over buffer at (x ∷ [])) = omega arith in
    ap (λ xs. set xs (at + 1) y) (over_byte buffer at x first)
    ∙ over_byte (over buffer at (x ∷ [])) (at + 1) y second
    ∙ over_append buffer at (x ∷ []) (y ∷ []) one

-- a part of the buffer that was written as a whole
pub over_part : (buffer : List ℕ) (at n : ℕ) (bytes : List ℕ) → length bytes ≡ n → put_mid at n buffer bytes ≡ over buffer at bytes
over_part buffer at n bytes e =
    ap (λ xs. take at buffer ++ (bytes ++ xs)) (drop-drop n at buffer ∙ ap (λ k. drop (at + k) buffer) (sym e))

-- ---- parts one after the other
-- joined bytes are written part by part: part i is written, those behind it are left
pub parts_more :
    {X : Type 0} (f : X → List ℕ) (xs : List X) (i at next : ℕ) (d : X) (before after target : List ℕ) →
    i < length xs →
    at + length (f (get_or xs i d)) ≤ length before →
    next ≡ at + length (f (get_or xs i d)) →
    after ≡ over before at (f (get_or xs i d)) →
    over before at (flat_map f (drop i xs)) ≡ target →
    over after next (flat_map f (drop (i + 1) xs)) ≡ target
parts_more f xs i at next d before after target h room n a e =
    let part = f (get_or xs i d) in
    let rest = flat_map f (drop (i + 1) xs) in
    let one : over after next rest ≡ over (over before at part) (at + length part) rest = λ j. over (a j) (n j) rest in
    one ∙ over_append before at part rest room ∙ ap (λ ys. over before at (flat_map f ys)) (sym (drop_more xs i d h)) ∙ e

-- all parts are written
pub parts_all :
    {X : Type 0} (f : X → List ℕ) (xs : List X) (i at : ℕ) (after target : List ℕ) →
    length xs ≤ i →
    over after at (flat_map f (drop i xs)) ≡ target →
    after ≡ target
parts_all f xs i at after target h e =
    sym (over_none after at) ∙ ap (λ ys. over after at (flat_map f ys)) (sym (drop_all i xs h)) ∙ e

pub joined_map : {X Y : Type 0} (f : Y → List ℕ) (g : X → Y) (xs : List X) → flat_map f (map g xs) ≡ flat_map (λ x. f (g x)) xs
joined_map f g [] = refl
joined_map f g (x ∷ xs) = ap (λ ys. f (g x) ++ ys) (joined_map f g xs)

-- ---- whole parts of a record
-- both common modes, then the clusters
pub modes_written :
    (buffer two all : List ℕ) (m : Pair ℕ) (rest : List ℕ) →
    4 ≤ length buffer →
    two ≡ over (over buffer 0 (word m.left)) 2 (word m.right) →
    all ≡ over two 4 rest →
    all ≡ (modes_bytes m ++ rest) ++ drop (length (modes_bytes m ++ rest)) buffer
modes_written buffer two all m rest h a b =
    let room : 0 + 2 ≤ length buffer = omega arith in
    let both : two ≡ over buffer 0 (modes_bytes m) = a ∙ over_append buffer 0 (word m.left) (word m.right) room in
    b ∙ ap (λ xs. over xs 4 rest) both ∙ over_append buffer 0 (modes_bytes m) rest h ∙ over_front buffer (modes_bytes m ++ rest)

-- the header, then the content in what is left of the buffer
pub record_written :
    (buffer headed : List ℕ) (n k c : ℕ) (bytes content : List ℕ) →
    3 + length bytes ≤ length buffer →
    n ≡ 3 + length bytes →
    k ≡ c →
    headed ≡ over buffer 0 (word n) →
    content ≡ bytes ++ drop (length bytes) (take (length (set headed 2 k) - 3) (drop 3 (set headed 2 k))) →
    put_mid 3 (length (set headed 2 k) - 3) (set headed 2 k) content
    ≡ (word (3 + length bytes) ++ c ∷ bytes) ++ drop (length (word (3 + length bytes) ++ c ∷ bytes)) buffer
record_written buffer headed n k c bytes content h p q e f =
    let front : List ℕ = word n ++ k ∷ [] in
    let two : 0 + 2 ≤ length buffer = omega arith in
    let three : 2 < length (over buffer 0 (word n)) = omega (arith, length_over buffer 0 (word n) two) in
    let whole : set headed 2 k ≡ front ++ drop 3 buffer =
    ap (λ xs. set xs 2 k) e
    ∙ over_byte (over buffer 0 (word n)) 2 k three
    ∙ over_append buffer 0 (word n) (k ∷ []) two
    ∙ over_front buffer front in
    let rest : take (length (set headed 2 k) - 3) (drop 3 (set headed 2 k)) ≡ drop 3 buffer =
    take_rest (set headed 2 k) 3 ∙ ap (drop 3) whole in
    let written : content ≡ bytes ++ drop (length bytes) (drop 3 buffer) = f ∙ ap (λ xs. bytes ++ drop (length bytes) xs) rest in
    let l1 = ap length written in
    let l2 = length-append bytes (drop (length bytes) (drop 3 buffer)) in
    let l3 = length-drop (length bytes) (drop 3 buffer) in
    let l4 = length-drop 3 buffer in
    let l5 = ap length whole in
    let l6 = length-append front (drop 3 buffer) in
    let long : length content ≡ length (set headed 2 k) - 3 = omega arith in
    let past : length (set headed 2 k) ≤ 3 + length content = omega arith in
    let size : 3 + length bytes ≡ length (word (3 + length bytes) ++ c ∷ bytes) = omega arith in
    over_part (set headed 2 k) 3 (length (set headed 2 k) - 3) content long
    ∙ ap (λ xs. take 3 (set headed 2 k) ++ (content ++ xs)) (drop_all (3 + length content) (set headed 2 k) past)
    ∙ ap (λ xs. take 3 xs ++ (content ++ [])) whole
    ∙ ap (λ xs. front ++ xs) (append-nil content ∙ written ∙ ap (λ xs. bytes ++ xs) (drop-drop (length bytes) 3 buffer))
    ∙ (λ i. (word (p i) ++ q i ∷ bytes) ++ drop (size i) buffer)

-- a cluster: two bytes, then the values of its strips as one part
pub cluster_written :
    (buffer values : List ℕ) (at k : ℕ) (r : Run) (copied : List ℕ) →
    length values ≡ 256 →
    r.address + r.strips ≤ 256 →
    at + 2 + r.strips ≤ length buffer →
    copied ≡ take r.strips (drop r.address values) →
    k ≡ r.strips →
    put_mid (at + 2) k (set (set buffer at r.address) (at + 1) r.strips) copied ≡ over buffer at (cluster_bytes (cluster_on values r))
cluster_written buffer values at k r copied long ends room e f =
    let values_long : length (take r.strips (drop r.address values)) ≡ r.strips = values_on values r long ends in
    let size : length copied ≡ k = ap length e ∙ values_long ∙ sym f in
    let two : at + 2 ≤ length buffer = omega arith in
    over_part (set (set buffer at r.address) (at + 1) r.strips) (at + 2) k copied size
    ∙ ap (λ xs. over xs (at + 2) copied) (over_two buffer at r.address r.strips two)
    ∙ over_append buffer at (r.address ∷ r.strips ∷ []) copied two
    ∙ ap (λ n. over buffer at (r.address ∷ n ∷ copied)) (sym values_long)
    ∙ ap (λ xs. over buffer at (r.address ∷ length (take r.strips (drop r.address values)) ∷ xs)) e
