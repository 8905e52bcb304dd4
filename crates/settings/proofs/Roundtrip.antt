-- Every setting's word stands for it, and every word that is taken is the word of what it stands for.
-- Assumes nothing.
use Rattle.std.proofs.Common.{◌≡◌, ℕ, zero, suc, ◌+◌, ◌*◌, ◌/◌, ◌%◌, ◌^◌, ◌<◌, ◌≤◌, Bool, true, false, ◌&&◌, ◌||◌, eqb, ltb, IfOk, Ok, Err, Result, sym, refl, ap, ◌∙◌, subst, ⊎_elim, arith}
use Rattle.std.proofs.lemmas.Nat.{div-mul-add, mod-mul-add, shr-shr, shr_split, shr_below}
use Rattle.std.proofs.lemmas.Bool.{and_parts, or_cases, eqb-true, ltb-true, lt-ltb, both_ways, cases_eq}
use Rattle.terms.specs.Terms.{enable_number, side_number}
use Rattle.terms.specs.declared.enable.Enable.{Enable}
use Rattle.terms.specs.declared.enable.Enable.TheVariants as enables
use Rattle.terms.specs.declared.fibre.Fibre.{Fibre}
use Rattle.terms.specs.declared.pair.Side.{Side}
use Rattle.terms.specs.declared.pair.Side.TheVariants as sides
use Rattle.terms.specs.declared.refusal.Refusal.{Refusal}
use Rattle.settings.specs.declared.mode.Mode.{Mode}
use Rattle.settings.specs.declared.mode.Mode.TheVariants.{ZeroSuppression, ProcessedRaw, VirginRaw}
use Rattle.settings.specs.declared.parts.Pedestal.{Pedestal}
use Rattle.settings.specs.declared.parts.Thresholds.{Thresholds}
use Rattle.settings.specs.declared.parts.TickThreshold.{TickThreshold}
use Rattle.settings.specs.declared.setting.Setting.{Setting}
use Rattle.settings.specs.declared.setting.Setting.TheVariants as settings
use Rattle.settings.specs.Fields.{bits, bit, kind, fibre_field, mode_field, thresh1_field, thresh2_field}
use Rattle.settings.specs.Modes.{mode_number}
use Rattle.settings.specs.Order.{in_order}
use Rattle.settings.specs.Words.{Decodes, Encodes, decoded, word_of, mode_from, enable_from, side_from, fibre_if, fibre_from, thresholds_if, mode_setting, tick_setting, pedestal_setting, thresholds_setting, rank_setting}
use Rattle.settings.proofs.Asked.{ask, decoded_mode, decoded_tick, decoded_pedestal, decoded_thresholds, decoded_rank}
use Rattle.settings.proofs.Decoding.{unknown, mode_taken, tick_taken, pedestal_taken, thresholds_taken, rank_taken}

-- the numbers of enables, sides and flags, and back

enable_below : (e : Enable) → enable_number e < 4
enable_below enables.Neither = omega arith
enable_below enables.Right = omega arith
enable_below enables.Left = omega arith
enable_below enables.Both = omega arith

enable_back : (e : Enable) → e ≡ enable_from (enable_number e)
enable_back enables.Neither = refl
enable_back enables.Right = refl
enable_back enables.Left = refl
enable_back enables.Both = refl

enable_there : (n : ℕ) → n < 4 → enable_number (enable_from n) ≡ n
enable_there zero h = refl
enable_there (suc zero) h = refl
enable_there (suc (suc zero)) h = refl
enable_there (suc (suc (suc zero))) h = refl
enable_there (suc (suc (suc (suc n)))) h = absurd (omega arith)

bit_below : (b : Bool) → bit b < 2
bit_below true = omega arith
bit_below false = omega arith

bit_back : (b : Bool) → b ≡ eqb (bit b) 1
bit_back true = refl
bit_back false = refl

bit_there : (n : ℕ) → n < 2 → bit (eqb n 1) ≡ n
bit_there zero h = refl
bit_there (suc zero) h = refl
bit_there (suc (suc n)) h = absurd (omega arith)

side_below : (s : Side) → side_number s < 2
side_below sides.Left = omega arith
side_below sides.Right = omega arith

side_back : (s : Side) → s ≡ side_from (eqb (side_number s) 1)
side_back sides.Left = refl
side_back sides.Right = refl

side_there : (n : ℕ) → n < 2 → side_number (side_from (eqb n 1)) ≡ n
side_there zero h = refl
side_there (suc zero) h = refl
side_there (suc (suc n)) h = absurd (omega arith)

index_at : (n : ℕ) (b : Bool) (e : ltb n 12 ≡ b) → n < 12 → (fibre_if n b e).index ≡ n
index_at n true e h = refl
index_at n false e h = absurd (both_ways (ltb n 12) e (lt-ltb n 12 h))

index_there : (n : ℕ) → n < 12 → (fibre_from n).index ≡ n
index_there n h = index_at n (ltb n 12) refl h

thresholds_at : (a b : ℕ) (o : Bool) (e : in_order a b ≡ o) → in_order a b ≡ true → ((thresholds_if a b o e).thresh1 ≡ a) × ((thresholds_if a b o e).thresh2 ≡ b)
thresholds_at a b true e h = (refl, refl)
thresholds_at a b false e h = absurd (both_ways (in_order a b) e h)

-- every setting's word stands for it

pub mode_word : (m : Mode) → decoded (word_of (settings.Mode m)) ≡ Ok (settings.Mode m)
mode_word ZeroSuppression = sym (mode_taken (1 * 2 ^ 28 + 10) ZeroSuppression refl refl refl)
mode_word ProcessedRaw = sym (mode_taken (1 * 2 ^ 28 + 18) ProcessedRaw refl refl refl)
mode_word VirginRaw = sym (mode_taken (1 * 2 ^ 28 + 6) VirginRaw refl refl refl)

-- a field of a word: above it stands `high`, below it `low`
field_is : (w unit size high v low : ℕ) → w ≡ (high * size + v) * unit + low → low < unit → v < size → v ≡ w / unit % size
field_is w unit size high v low e h k =
    sym (rw (e, div-mul-add (high * size + v) unit low h) (mod-mul-add high size v k))

pub tick_word : (f : Fibre) (e : Enable) (i : Bool) (t : TickThreshold) → decoded (word_of (settings.Tick f e i t)) ≡ Ok (settings.Tick f e i t)
tick_word f e i t =
    let w : ℕ = word_of (settings.Tick f e i t) in
    let a = enable_below e in
    let b = bit_below i in
    let fibre = f.index in
    let x = f.below in
    let y = t.small in
    let enable = field_is w (2 ^ 6) 4 (2 * 2 ^ 20 + fibre * 2 ^ 16) (enable_number e) (bit i * 2 ^ 5 + t.value) (omega arith) (omega arith) a in
    let inverted = field_is w (2 ^ 5) 2 (2 * 2 ^ 22 + fibre * 2 ^ 18 + enable_number e) (bit i) t.value (omega arith) y b in
    sym
    (tick_taken w
    (sym (field_is w (2 ^ 28) 16 0 2 (fibre * 2 ^ 24 + enable_number e * 2 ^ 6 + bit i * 2 ^ 5 + t.value) (omega arith) (omega arith) (omega arith)))
    (field_is w (2 ^ 24) 16 2 fibre (enable_number e * 2 ^ 6 + bit i * 2 ^ 5 + t.value) (omega arith) (omega arith) (omega arith))
    (sym (field_is w (2 ^ 8) (2 ^ 16) (32 + fibre) 0 (enable_number e * 2 ^ 6 + bit i * 2 ^ 5 + t.value) (omega arith) (omega arith) (omega arith)))
    (enable_back e ∙ ap enable_from enable) (bit_back i ∙ ap (λ (n : ℕ). eqb n 1) inverted)
    (field_is w 1 32 (2 * 2 ^ 23 + fibre * 2 ^ 19 + enable_number e * 2 + bit i) t.value 0 (omega arith) (omega arith) y))

pub pedestal_word :
    (f : Fibre) (s : ℕ) (v : Bool) (p : Pedestal) → s < 256 →
    decoded (word_of (settings.Pedestal f s v p)) ≡ Ok (settings.Pedestal f s v p)
pedestal_word f s v p z =
    let w : ℕ = word_of (settings.Pedestal f s v p) in
    let b = bit_below v in
    let fibre = f.index in
    let x = f.below in
    let y = p.small in
    let valid = field_is w (2 ^ 10) 2 (3 * 2 ^ 17 + fibre * 2 ^ 13 + s * 2 ^ 5) (bit v) p.value (omega arith) y b in
    sym
    (pedestal_taken w
    (sym (field_is w (2 ^ 28) 16 0 3 (fibre * 2 ^ 24 + s * 2 ^ 16 + bit v * 2 ^ 10 + p.value) (omega arith) (omega arith) (omega arith)))
    (field_is w (2 ^ 24) 16 3 fibre (s * 2 ^ 16 + bit v * 2 ^ 10 + p.value) (omega arith) (omega arith) (omega arith))
    (sym (field_is w (2 ^ 11) 32 (3 * 2 ^ 12 + fibre * 2 ^ 8 + s) 0 (bit v * 2 ^ 10 + p.value) (omega arith) (omega arith) (omega arith)))
    (field_is w (2 ^ 16) 256 (3 * 2 ^ 4 + fibre) s (bit v * 2 ^ 10 + p.value) (omega arith) (omega arith) z)
    (bit_back v ∙ ap (λ (n : ℕ). eqb n 1) valid)
    (field_is w 1 1024 (3 * 2 ^ 18 + fibre * 2 ^ 14 + s * 2 ^ 6 + bit v) p.value 0 (omega arith) (omega arith) y))

pub thresholds_word :
    (f : Fibre) (s : ℕ) (t : Thresholds) → s < 256 → t.thresh1 < 256 → t.thresh2 < 256 →
    decoded (word_of (settings.Thresholds f s t)) ≡ Ok (settings.Thresholds f s t)
thresholds_word f s t z a b =
    let w : ℕ = word_of (settings.Thresholds f s t) in
    let fibre = f.index in
    let x = f.below in
    sym
    (thresholds_taken w
    (sym (field_is w (2 ^ 28) 16 0 4 (fibre * 2 ^ 24 + s * 2 ^ 16 + t.thresh2 * 2 ^ 8 + t.thresh1) (omega arith) (omega arith) (omega arith)))
    (field_is w (2 ^ 24) 16 4 fibre (s * 2 ^ 16 + t.thresh2 * 2 ^ 8 + t.thresh1) (omega arith) (omega arith) (omega arith))
    (field_is w (2 ^ 16) 256 (4 * 2 ^ 4 + fibre) s (t.thresh2 * 2 ^ 8 + t.thresh1) (omega arith) (omega arith) z)
    (field_is w 1 256 (4 * 2 ^ 20 + fibre * 2 ^ 16 + s * 2 ^ 8 + t.thresh2) t.thresh1 0 (omega arith) (omega arith) a)
    (field_is w (2 ^ 8) 256 (4 * 2 ^ 12 + fibre * 2 ^ 8 + s) t.thresh2 t.thresh1 (omega arith) a b))

pub rank_word : (f : Fibre) (s : Side) (r : ℕ) → r < 256 → decoded (word_of (settings.Rank f s r)) ≡ Ok (settings.Rank f s r)
rank_word f s r z =
    let w : ℕ = word_of (settings.Rank f s r) in
    let b = side_below s in
    let fibre = f.index in
    let x = f.below in
    let side = field_is w (2 ^ 16) 2 (5 * 2 ^ 11 + fibre * 2 ^ 7) (side_number s) r (omega arith) (omega arith) b in
    sym
    (rank_taken w
    (sym (field_is w (2 ^ 28) 16 0 5 (fibre * 2 ^ 24 + side_number s * 2 ^ 16 + r) (omega arith) (omega arith) (omega arith)))
    (field_is w (2 ^ 24) 16 5 fibre (side_number s * 2 ^ 16 + r) (omega arith) (omega arith) (omega arith))
    (sym (field_is w (2 ^ 17) 128 (5 * 2 ^ 4 + fibre) 0 (side_number s * 2 ^ 16 + r) (omega arith) (omega arith) (omega arith)))
    (sym (field_is w (2 ^ 8) 256 (5 * 2 ^ 12 + fibre * 2 ^ 8 + side_number s) 0 r (omega arith) (omega arith) (omega arith)))
    (side_back s ∙ ap (λ (n : ℕ). side_from (eqb n 1)) side)
    (field_is w 1 256 (5 * 2 ^ 20 + fibre * 2 ^ 16 + side_number s * 2 ^ 8) r 0 (omega arith) (omega arith) z))

-- every word that is taken is the word of what it stands for

ask_ok : (b : Bool) (e : Refusal) (r : Result Setting Refusal) (s : Setting) → ask b e r ≡ Ok s → (b ≡ true) × (r ≡ Ok s)
ask_ok true e r s h = (refl, h)
ask_ok false e r s h = let z : ◌≡◌ {A = ℕ} 0 1 = cc in absurd (omega arith)

ok_same : (s t : Setting) → ◌≡◌ {A = Result Setting Refusal} (Ok s) (Ok t) → s ≡ t
ok_same s t h = cc

through : (w : ℕ) (s t : Setting) → ◌≡◌ {A = Result Setting Refusal} (Ok s) (Ok t) → word_of s ≡ w → word_of t ≡ w
through w s t h e = subst (λ (x : Setting). word_of x ≡ w) (ok_same s t h) e

zero_field : (n : ℕ) (b : Bool) → (eqb n 0 && b) ≡ true → (n ≡ 0) × (b ≡ true)
zero_field n b h = let p = and_parts (eqb n 0) b h in (eqb-true n 0 p.0, p.1)

-- what stands above a bit is the field from there on, and what stands above that
above : (w j k : ℕ) → w / 2 ^ j ≡ w / 2 ^ (j + k) * 2 ^ k + w / 2 ^ j % 2 ^ k
above w j k = rw (← shr-shr w j k) (sym (shr_split (w / 2 ^ j) k))

-- nothing stands above the kind
kind_whole : (w k : ℕ) → w < 2 ^ 32 → kind w ≡ k → w / 2 ^ 28 ≡ k
kind_whole w k h e = let b = shr_below w 4 28 h in omega arith

tick_of_word : (w : ℕ) → w < 2 ^ 32 → kind w ≡ 2 → (s : Setting) → decoded w ≡ Ok s → word_of s ≡ w
tick_of_word w h k s d =
    let p = ask_ok (ltb (fibre_field w) 12) _ _ s (sym (decoded_tick w k) ∙ d) in
    let q = ask_ok (eqb (bits 23 8 w) 0 && true) _ _ s p.1 in
    let f : fibre_field w < 12 = ltb-true (fibre_field w) 12 p.0 in
    let z : bits 23 8 w ≡ 0 = (zero_field (bits 23 8 w) true q.0).0 in
    let a = index_there (fibre_field w) f in
    let b = enable_there (bits 7 6 w) (omega arith) in
    let c = bit_there (bits 5 5 w) (omega arith) in
    through w (tick_setting w) s q.1 (omega arith)

pedestal_of_word : (w : ℕ) → w < 2 ^ 32 → kind w ≡ 3 → (s : Setting) → decoded w ≡ Ok s → word_of s ≡ w
pedestal_of_word w h k s d =
    let p = ask_ok (ltb (fibre_field w) 12) _ _ s (sym (decoded_pedestal w k) ∙ d) in
    let q = ask_ok (eqb (bits 15 11 w) 0 && true) _ _ s p.1 in
    let f : fibre_field w < 12 = ltb-true (fibre_field w) 12 p.0 in
    let z : bits 15 11 w ≡ 0 = (zero_field (bits 15 11 w) true q.0).0 in
    let a = index_there (fibre_field w) f in
    let c = bit_there (bits 10 10 w) (omega arith) in
    through w (pedestal_setting w) s q.1 (omega arith)

thresholds_of_word : (w : ℕ) → w < 2 ^ 32 → kind w ≡ 4 → (s : Setting) → decoded w ≡ Ok s → word_of s ≡ w
thresholds_of_word w h k s d =
    let p = ask_ok (ltb (fibre_field w) 12) _ _ s (sym (decoded_thresholds w k) ∙ d) in
    let q = ask_ok (in_order (thresh1_field w) (thresh2_field w)) _ _ s p.1 in
    let f : fibre_field w < 12 = ltb-true (fibre_field w) 12 p.0 in
    let a = index_there (fibre_field w) f in
    let c = thresholds_at (thresh1_field w) (thresh2_field w) (in_order (thresh1_field w) (thresh2_field w)) refl q.0 in
    through w (thresholds_setting w) s q.1 (omega (arith, c.0, c.1, shr-shr w 8 8, shr-shr w 16 8, shr-shr w 24 4))

rank_of_word : (w : ℕ) → w < 2 ^ 32 → kind w ≡ 5 → (s : Setting) → decoded w ≡ Ok s → word_of s ≡ w
rank_of_word w h k s d =
    let p = ask_ok (ltb (fibre_field w) 12) _ _ s (sym (decoded_rank w k) ∙ d) in
    let q = ask_ok (eqb (bits 23 17 w) 0 && (eqb (bits 15 8 w) 0 && true)) _ _ s p.1 in
    let f : fibre_field w < 12 = ltb-true (fibre_field w) 12 p.0 in
    let y = zero_field (bits 23 17 w) (eqb (bits 15 8 w) 0 && true) q.0 in
    let z : bits 15 8 w ≡ 0 = (zero_field (bits 15 8 w) true y.1).0 in
    let x : bits 23 17 w ≡ 0 = y.0 in
    let a = index_there (fibre_field w) f in
    let c = side_there (bits 16 16 w) (omega arith) in
    let top = kind_whole w 5 h k in
    let from17 : w / 2 ^ 17 ≡ 5 * 2 ^ 11 + fibre_field w * 2 ^ 7 = omega (arith, above w 17 7, above w 24 4) in
    let from8 : w / 2 ^ 8 ≡ w / 2 ^ 17 * 2 ^ 9 + bits 16 16 w * 2 ^ 8 = omega (arith, above w 8 8, above w 16 1) in
    through w (rank_setting w) s q.1 (omega arith)

-- a known mode's number is the one that it was found by
mode_there : (n : ℕ) → (eqb n 6 || (eqb n 10 || eqb n 18)) ≡ true → mode_number (mode_from n) ≡ n
mode_there n h =
    ⊎_elim
    (λ a. let e = eqb-true n 6 a in rw e)
    (λ r. ⊎_elim (λ a. let e = eqb-true n 10 a in rw e) (λ a. let e = eqb-true n 18 a in rw e) (or_cases (eqb n 10) (eqb n 18) r))
    (or_cases (eqb n 6) (eqb n 10 || eqb n 18) h)

mode_of_word : (w : ℕ) → w < 2 ^ 32 → kind w ≡ 1 → (s : Setting) → decoded w ≡ Ok s → word_of s ≡ w
mode_of_word w h k s d =
    let p = ask_ok (eqb (bits 27 5 w) 0 && true) _ _ s (sym (decoded_mode w k) ∙ d) in
    let q = ask_ok (eqb (mode_field w) 6 || (eqb (mode_field w) 10 || eqb (mode_field w) 18)) _ _ s p.1 in
    let z : bits 27 5 w ≡ 0 = (zero_field (bits 27 5 w) true p.0).0 in
    let a = mode_there (mode_field w) q.0 in
    through w (mode_setting w) s q.1 (omega arith)

none_of_word : (w : ℕ) → (1 ≤ kind w → kind w ≤ 5 → ⊥) → (s : Setting) → decoded w ≡ Ok s → word_of s ≡ w
none_of_word w h s d =
    let u = unknown w h in let z : ◌≡◌ {A = ℕ} 0 1 = cc in absurd (omega arith)

pub taken_word : (w : ℕ) → w < 2 ^ 32 → (s : Setting) → decoded w ≡ Ok s → word_of s ≡ w
taken_word w h s d =
    ⊎_elim (λ k. mode_of_word w h k s d)
    (λ a.
    ⊎_elim (λ k. tick_of_word w h k s d)
    (λ b.
    ⊎_elim (λ k. pedestal_of_word w h k s d)
    (λ c.
    ⊎_elim (λ k. thresholds_of_word w h k s d)
    (λ e. ⊎_elim (λ k. rank_of_word w h k s d) (λ g. none_of_word w (omega arith) s d) (cases_eq (kind w) 5))
    (cases_eq (kind w) 4))
    (cases_eq (kind w) 3))
    (cases_eq (kind w) 2))
    (cases_eq (kind w) 1)

-- so it is of what a decoder answers
encodes : (w : ℕ) (r : Result Setting Refusal) → w < 2 ^ 32 → r ≡ decoded w → IfOk r (λ s. word_of s ≡ w)
encodes w (Ok s) h e = taken_word w h s (sym e)
encodes w (Err x) h e = tt

pub decodes_as : (w : ℕ) (r : Result Setting Refusal) → w < 2 ^ 32 → r ≡ decoded w → Decodes w r
decodes_as w r h e = record { means = e; encodes = encodes w r h e }

-- and of what an encoder answers
pub encodes_as : {r : ℕ} {self : Setting} (s : Setting) → self ≡ s → r ≡ word_of self → decoded (word_of s) ≡ Ok s → Encodes self r
encodes_as {r} {self} s e h d = record { means = h; decodes = ap decoded (h ∙ ap word_of e) ∙ (d ∙ ap Ok (sym e)) }
