-- What a tally tells: its counts add up to the numbers of values below each bin, and two tallies find a position.
-- Assumes nothing.
use Rattle.std.proofs.Common.{◌≡◌, ℕ, zero, suc, ◌+◌, ◌-◌, ◌*◌, ◌/◌, ◌%◌, ◌<◌, ◌≤◌, Bool, true, false, cond, ◌&&◌, eqb, ltb, List, [], ◌∷◌, ◌++◌, map, length, get_or, take, set, replicate, Some, None, sum, count_by, filter, sym, refl, ap, ◌∙◌, subst, inl, inr, append-nil, add-one, arith}
use Rattle.std.specs.List.{AllByRecursion}
use Rattle.std.proofs.lemmas.List.Elements.{filter_more}
use Rattle.std.proofs.ByRecursion.{All-map, All-weaker}
use Rattle.std.proofs.lemmas.List.{length-set, get_or-set_same, get_or-set_other, get_or-replicate, length-map, length-take-le, map_more, map-append}
use Rattle.std.proofs.lemmas.List.Sums.{sum_by_more, sum_by_push, count_by-le-length, length-filter}
use Rattle.std.proofs.lemmas.Bool.{eq-eqb, ne_eqb, eqb-true, eqb-false, cases_eq, cond-true, cond-false}
use Rattle.std.proofs.lemmas.Bool.Decides.{nat_tests}
use Rattle.rules.specs.Rules.{below, HasPosition, value_at}
use Rattle.rules.specs.Bins.{Tallies, tops, bottoms}
use Rattle.rules.specs.Positions.{value_at_is}
use Rattle.rules.specs.Counts.{mark, count_cons, count_split, below_more, below_all, below_zero, upto_below}

pub tallies_none : Tallies (replicate 32 0) []
tallies_none = record { long = refl; each = λ b h. get_or-replicate 32 b 0 0 h }

-- one more value, in the bin k
pub tallies_more : (counts ks : List ℕ) (k : ℕ) → k < 32 → Tallies counts ks → Tallies (set counts k (get_or counts k 0 + 1)) (k ∷ ks)
tallies_more counts ks k within t = record {
  long = length-set counts k (get_or counts k 0 + 1) ∙ t.long;
  each = λ b h. rw (count_cons (λ j. eqb j b) k ks) (elim (cases_eq b k) [
    | inl e ↦ rw e (get_or-set_same counts k (get_or counts k 0 + 1) 0 (omega (arith, t.long)) ∙ omega (arith, t.each k within, ap mark (eq-eqb k k refl)))
    | inr ne ↦ get_or-set_other counts k b (get_or counts k 0 + 1) 0 ne ∙ omega (arith, t.each b h, ap mark (ne_eqb k b (λ e. ne (sym e))))
  ]);
}

-- the order of the values does not matter
tallies_last : (counts ks : List ℕ) (k : ℕ) → Tallies counts (k ∷ ks) → Tallies counts (ks ++ k ∷ [])
tallies_last counts ks k t = record {
  long = t.long;
  each = λ b h. omega (arith, t.each b h, count_cons (λ j. eqb j b) k ks, sum_by_push (λ j. mark (eqb j b)) ks k);
}

-- a bin has room while fewer than 128 values were taken
tallies_room : (counts ks : List ℕ) (k : ℕ) → k < 32 → Tallies counts ks → length ks < 128 → get_or counts k 0 < 128
tallies_room counts ks k within t few = omega (arith, t.each k within, count_by-le-length (λ j. eqb j k) ks)

-- the counts of the first bins are the number of values below the next
pub tallies_below : (counts ks : List ℕ) (b : ℕ) → b ≤ 32 → Tallies counts ks → sum (take b counts) ≡ below b ks
tallies_below counts ks zero h t = sym (below_zero ks)
tallies_below counts ks (suc b) h t =
    let rest = tallies_below counts ks b (omega arith) t in
    let more : sum (take (b + 1) counts) ≡ below (b + 1) ks =
    omega (arith, sum_by_more (λ n. n) counts b 0 (omega (arith, t.long)), below_more b ks, rest, t.each b (omega arith)) in
    subst (λ n. sum (take n counts) ≡ below n ks) (add-one b) more

tallies_all : (counts ks : List ℕ) → Tallies counts ks → AllByRecursion (λ k. k < 32) ks → sum (take 32 counts) ≡ length ks
tallies_all counts ks t all = tallies_below counts ks 32 (omega arith) t ∙ below_all 32 ks all

-- the bin where the counts come to p has the position p among the bins taken
pub tallies_find : (counts ks : List ℕ) (p b : ℕ) → b < 32 → Tallies counts ks → sum (take b counts) < p → p ≤ sum (take (b + 1) counts) → HasPosition p b ks
tallies_find counts ks p b within t fewer enough = record {
  fewer = omega (arith, tallies_below counts ks b (omega arith) t);
  enough = omega (arith, tallies_below counts ks (b + 1) (omega arith) t, upto_below b ks);
}

count_map : (p : ℕ → Bool) (f : ℕ → ℕ) (vs : List ℕ) → count_by p (map f vs) ≡ count_by (λ v. p (f v)) vs
count_map p f [] = refl
count_map p f (v ∷ vs) = rw (count_cons p (f v) (map f vs), count_cons (λ u. p (f u)) v vs, count_map p f vs) refl

count_kept : (p q : ℕ → Bool) (vs : List ℕ) → count_by p (filter q vs) ≡ count_by (λ v. q v && p v) vs
count_kept p q [] = refl
count_kept p q (v ∷ vs) = rw (count_cons (λ u. q u && p u) v vs) (at (q v) (count_kept p q vs))
  where
    at : (b : Bool) → count_by p (filter q vs) ≡ count_by (λ u. q u && p u) vs → count_by p (cond b (v ∷ filter q vs) (filter q vs)) ≡ mark (b && p v) + count_by (λ u. q u && p u) vs
    at true rest = rw (count_cons p v (filter q vs), rest) refl
    at false rest = omega (arith, rest)

-- a value lies below 32 b + l if its top bits lie below b, or are b with the bottom bits below l
below_split : (b l : ℕ) → l ≤ 32 → (vs : List ℕ) → below (32 * b + l) vs ≡ below b (tops vs) + below l (bottoms b vs)
below_split b l h vs =
    rw (count_map (λ k. ltb k b) (λ v. v / 32) vs, count_map (λ k. ltb k l) (λ v. v % 32) (filter (λ v. eqb (v / 32) b) vs), count_kept (λ v. ltb (v % 32) l) (λ v. eqb (v / 32) b) vs)
    (count_split (λ v. ltb v (32 * b + l)) (λ v. ltb (v / 32) b) (λ v. eqb (v / 32) b && ltb (v % 32) l) (λ v. grind (arith, nat_tests)) vs)

tops_bins : (vs : List ℕ) → AllByRecursion (λ v. v ≤ 1023) vs → AllByRecursion (λ k. k < 32) (tops vs)
tops_bins vs h = All-map (λ k. k < 32) (λ v. v / 32) vs (All-weaker (λ v. v ≤ 1023) (λ v. v / 32 < 32) (λ v l. omega arith) vs h)

all_known : (P : ℕ → Type 0) → ((v : ℕ) → P v) → (vs : List ℕ) → AllByRecursion P vs
all_known P h [] = tt
all_known P h (v ∷ vs) = (h v, all_known P h vs)

bottoms_bins : (b : ℕ) (vs : List ℕ) → AllByRecursion (λ k. k < 32) (bottoms b vs)
bottoms_bins b vs = All-map (λ k. k < 32) (λ v. v % 32) (filter (λ v. eqb (v / 32) b) vs) (all_known (λ v. v % 32 < 32) (λ v. omega arith) (filter (λ v. eqb (v / 32) b) vs))

-- the values of a bin
bottoms_count : (b : ℕ) (vs : List ℕ) → below (b + 1) (tops vs) ≡ below b (tops vs) + length (bottoms b vs)
bottoms_count b vs =
    let same : 32 * b + 32 ≡ 32 * (b + 1) + 0 = omega arith in
    let edge : below (32 * b + 32) vs ≡ below (32 * (b + 1) + 0) vs = ap (λ x. below x vs) same in
    omega (arith, edge, below_split b 32 (omega arith) vs, below_split (b + 1) 0 (omega arith) vs, below_all 32 (bottoms b vs) (bottoms_bins b vs), below_zero (bottoms (b + 1) vs))

-- the second tally has the position that is left
left_within : (p b : ℕ) (vs : List ℕ) → HasPosition p b (tops vs) → p - below b (tops vs) ≤ length (bottoms b vs)
left_within p b vs h = omega (arith, h.enough, upto_below b (tops vs), bottoms_count b vs)

-- the two positions together
both_bits : (p b l : ℕ) (vs : List ℕ) → l < 32 → HasPosition p b (tops vs) → HasPosition (p - below b (tops vs)) l (bottoms b vs) → HasPosition p (32 * b + l) vs
both_bits p b l vs within top bottom =
    let same : 32 * b + (l + 1) ≡ 32 * b + l + 1 = omega arith in
    let edge : below (32 * b + (l + 1)) vs ≡ below (32 * b + l + 1) vs = ap (λ x. below x vs) same in
    record {
      fewer = omega (arith, below_split b l (omega arith) vs, top.fewer, bottom.fewer);
      enough = omega (arith, edge, below_split b (l + 1) (omega arith) vs, upto_below (32 * b + l) vs, upto_below l (bottoms b vs), bottom.enough);
    }

-- one value further on
bottoms_yes : (b : ℕ) (vs : List ℕ) (i v : ℕ) → i < length vs → v ≡ get_or vs i 0 → v / 32 ≡ b → bottoms b (take (i + 1) vs) ≡ bottoms b (take i vs) ++ (v % 32) ∷ []
bottoms_yes b vs i v within read e =
    let t : eqb (get_or vs i 0 / 32) b ≡ true = eq-eqb (get_or vs i 0 / 32) b (ap (λ x. x / 32) (sym read) ∙ e) in
    ap (map (λ u. u % 32)) (filter_more (λ u. eqb (u / 32) b) vs i 0 within ∙ ap (λ ys. filter (λ u. eqb (u / 32) b) (take i vs) ++ ys) (cond-true (eqb (get_or vs i 0 / 32) b) (get_or vs i 0 ∷ []) [] t))
    ∙ map-append (λ u. u % 32) (filter (λ u. eqb (u / 32) b) (take i vs)) (get_or vs i 0 ∷ [])
    ∙ ap (λ x. bottoms b (take i vs) ++ (x % 32) ∷ []) (sym read)

bottoms_no : (b : ℕ) (vs : List ℕ) (i v : ℕ) → i < length vs → v ≡ get_or vs i 0 → (v / 32 ≡ b → ⊥) → bottoms b (take (i + 1) vs) ≡ bottoms b (take i vs)
bottoms_no b vs i v within read ne =
    let f : eqb (get_or vs i 0 / 32) b ≡ false = ne_eqb (get_or vs i 0 / 32) b (λ e. ne (ap (λ x. x / 32) read ∙ e)) in
    ap (map (λ u. u % 32)) (filter_more (λ u. eqb (u / 32) b) vs i 0 within ∙ ap (λ ys. filter (λ u. eqb (u / 32) b) (take i vs) ++ ys) (cond-false (eqb (get_or vs i 0 / 32) b) (get_or vs i 0 ∷ []) [] f) ∙ append-nil (filter (λ u. eqb (u / 32) b) (take i vs)))

some_bits : (t : Bool) (k n : ℕ) → Some k ≡ cond t (Some n) None → (t ≡ true) × (k ≡ n)
some_bits true k n e = (refl, cc)
some_bits false k n e = absurd (let z : ◌≡◌ {A = ℕ} 0 1 = cc in omega arith)

-- the bottom bits that were found are those of a value in the bin
bits_of : (v b k : ℕ) → Some k ≡ cond (eqb (v / 32) b) (Some (v % 32)) None → (v / 32 ≡ b) × (k ≡ v % 32)
bits_of v b k e = let (t, same) = some_bits (eqb (v / 32) b) k (v % 32) e in (eqb-true (v / 32) b t, same)

no_bits : (t : Bool) (n : ℕ) → None ≡ cond t (Some n) None → t ≡ false
no_bits true n e = absurd (let z : ◌≡◌ {A = ℕ} 0 1 = cc in omega arith)
no_bits false n e = refl

pub tops_more : (counts vs : List ℕ) (i k : ℕ) → i < length vs → k ≡ get_or vs i 0 / 32 → Tallies counts (k ∷ tops (take i vs)) → Tallies counts (tops (take (i + 1) vs))
tops_more counts vs i k within e t =
    rw (map_more (λ v. v / 32) vs i 0 within, ← e) (tallies_last counts (tops (take i vs)) k t)

bottoms_length : (b : ℕ) (vs : List ℕ) → length (bottoms b vs) ≤ length vs
bottoms_length b vs =
    omega (arith, length-map (filter (λ v. eqb (v / 32) b) vs) (λ v. v % 32), length-filter (λ v. eqb (v / 32) b) vs, count_by-le-length (λ v. eqb (v / 32) b) vs)

-- what the second tally asks of one more value of its bin
pub bottom_taken : (counts vs : List ℕ) (i b v k : ℕ) → i < length vs → length vs ≤ 128 → Some k ≡ cond (eqb (v / 32) b) (Some (v % 32)) None → Tallies counts (bottoms b (take i vs)) → (k < 32) × (get_or counts k 0 < 128)
bottom_taken counts vs i b v k within few e t =
    let small : k < 32 = omega (arith, (bits_of v b k e).1) in
    (small, tallies_room counts (bottoms b (take i vs)) k small t (omega (arith, bottoms_length b (take i vs), length-take-le i vs (omega arith))))

-- one value more of the second tally's bin, and one of another bin
pub bottoms_more : (counts vs : List ℕ) (i b k : ℕ) → i < length vs → Some k ≡ cond (eqb (get_or vs i 0 / 32) b) (Some (get_or vs i 0 % 32)) None → Tallies counts (k ∷ bottoms b (take i vs)) → Tallies counts (bottoms b (take (i + 1) vs))
bottoms_more counts vs i b k within e t =
    let (here, same) = bits_of (get_or vs i 0) b k e in
    rw (bottoms_yes b vs i (get_or vs i 0) within refl here, ← same) (tallies_last counts (bottoms b (take i vs)) k t)

pub bottoms_same : (counts vs : List ℕ) (i b : ℕ) → i < length vs → None ≡ cond (eqb (get_or vs i 0 / 32) b) (Some (get_or vs i 0 % 32)) None → Tallies counts (bottoms b (take i vs)) → Tallies counts (bottoms b (take (i + 1) vs))
bottoms_same counts vs i b within e t =
    rw (bottoms_no b vs i (get_or vs i 0) within refl (eqb-false (get_or vs i 0 / 32) b (no_bits (eqb (get_or vs i 0 / 32) b) (get_or vs i 0 % 32) e))) t

-- what each tally's search asks
pub top_enough : (counts vs : List ℕ) (p : ℕ) → p ≤ length vs → AllByRecursion (λ v. v ≤ 1023) vs → Tallies counts (tops vs) → p ≤ sum (take 32 counts)
top_enough counts vs p within all t = omega (arith, tallies_all counts (tops vs) t (tops_bins vs all), length-map vs (λ v. v / 32))

pub bottom_enough : (counts vs : List ℕ) (p b n : ℕ) → HasPosition p b (tops vs) → n ≡ below b (tops vs) → Tallies counts (bottoms b vs) → (0 < p - n) × (p - n ≤ sum (take 32 counts))
bottom_enough counts vs p b n has same t =
    (omega (arith, has.fewer), omega (arith, tallies_all counts (bottoms b vs) t (bottoms_bins b vs), left_within p b vs has))

-- the two tallies find the value at the position
pub tallies_value : (vs : List ℕ) (p b l n : ℕ) → 0 < p → p ≤ length vs → l < 32 → HasPosition p b (tops vs) → n ≡ below b (tops vs) → HasPosition (p - n) l (bottoms b vs) → 32 * b + l ≡ value_at p vs
tallies_value vs p b l n some within small top same bottom =
    value_at_is p (32 * b + l) vs (both_bits p b l vs small top (subst (λ m. HasPosition (p - m) l (bottoms b vs)) same bottom)) some within
