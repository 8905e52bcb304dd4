-- A row that is filled in the order of the places, each value at its strip.
-- Assumes nothing.
use Rattle.std.proofs.Common.{◌≡◌, ℕ, ◌+◌, ◌<◌, ◌≤◌, ◌≢◌, List, map, length, get_or, set, sym, ap, ◌∙◌, subst, arith, get_or-set_other, get_or-set_same, below_more}
use Rattle.std.specs.List.{range_with_len}
use Rattle.std.proofs.lemmas.List.FromFn.{fill_by_all}
use Rattle.std.proofs.lemmas.List.{get_or-map}
use Rattle.settings.specs.declared.fibre.FibreSettings.{FibreSettings}
use Rattle.settings.specs.Settings.{of_strip}
use Rattle.strips.specs.declared.sample.Sample.{Sample}
use Rattle.strips.specs.Order.{strip_at, place_of}
use Rattle.strips.specs.Values.{turned, flat}
use Rattle.strips.specs.Fibre.{numbers, flat_value}
use Rattle.strips.proofs.OrderTable.{one_to_one}

-- two places have two strips
strips_apart : (k p : ℕ) → k < 256 → p < 256 → k ≢ p → strip_at k ≢ strip_at p
strips_apart k p h g ne e = ne (sym (one_to_one.there_and_back k h) ∙ ap place_of e ∙ one_to_one.there_and_back p g)

-- the strips of the places before p have their values in the row
abbrev pub Filled : (ℕ → ℕ) → List ℕ → ℕ → Type 0
Filled f row p = (k : ℕ) → k < p → get_or row (strip_at k) 0 ≡ f (strip_at k)

pub filled_more : (f : ℕ → ℕ) (row : List ℕ) (p strip v : ℕ) → length row ≡ 256 → p < 256 → strip ≡ strip_at p → v ≡ f (strip_at p)
    → Filled f row p → Filled f (set row strip v) (p + 1)
filled_more f row p strip v long h at e filled =
    subst (λ (s : ℕ). Filled f (set row s v) (p + 1)) (sym at)
    (below_more (λ k. get_or (set row (strip_at p) v) (strip_at k) 0 ≡ f (strip_at k)) p
    (λ k g.
    let ne : strip_at k ≢ strip_at p = strips_apart k p (omega arith) h (omega arith) in
    rw get_or-set_other (filled k g))
    (let lt : strip_at p < length row = subst (λ (n : ℕ). strip_at p < n) (sym long) (one_to_one.strip_below p h) in
    rw get_or-set_same e))

pub filled_all : (f : ℕ → ℕ) (row : List ℕ) (p : ℕ) → length row ≡ 256 → 256 ≤ p → Filled f row p → row ≡ map f (range_with_len 0 256)
filled_all f row p long past filled =
    fill_by_all f row 256 0 long
    (λ s h.
    let below = one_to_one.place_below s h in
    subst (λ (t : ℕ). get_or row t 0 ≡ f t) (one_to_one.back_and_there s h)
    (filled (place_of s) (omega arith)))

-- the flat value at the strip of a place is that of the place's sample
pub flat_at_place : (fibre : FibreSettings) (samples : List Sample) (p strip v : ℕ) (d : Sample) → p < 256 → p < length samples → strip ≡ strip_at p
    → v ≡ flat (of_strip fibre strip).pedestal (turned fibre.complement (get_or samples p d).value)
    → v ≡ flat_value fibre (numbers samples) (strip_at p)
flat_at_place fibre samples p strip v d h inside at e =
    let number : get_or (numbers samples) (place_of (strip_at p)) 0 ≡ (get_or samples p d).value =
    ap (λ (k : ℕ). get_or (numbers samples) k 0) (one_to_one.there_and_back p h)
    ∙ get_or-map (λ (y : Sample). y.value) samples p d 0 inside
    in
    e
    ∙ (ap (λ (s : ℕ). flat (of_strip fibre s).pedestal (turned fibre.complement (get_or samples p d).value)) at
    ∙ ap (λ (n : ℕ). flat (of_strip fibre (strip_at p)).pedestal (turned fibre.complement n)) (sym number))
