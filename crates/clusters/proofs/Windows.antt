-- Windows of five strips: their elements, and how they slide.
use Rattle.std.proofs.Common.{◌≡◌, ℕ, zero, suc, ◌+◌, ◌<◌, ◌≤◌, Bool, ◌&&◌, List, [], ◌∷◌, ◌++◌, length, get_or, take, drop, sym, refl, ap, ◌∙◌, arith}
use Rattle.clusters.specs.declared.pattern.Mark.{Mark}
use Rattle.clusters.specs.declared.reached.Reached.{Reached}
use Rattle.std.specs.List.{list_all, zip}
use Rattle.std.proofs.lemmas.List.{get_or-take, get_or-drop, length-drop, length-append, length-take-le, drop-drop}
use Rattle.clusters.specs.Patterns.{nothing, window, fits, row_fits, some_fits, patterns, belongs}

-- a list of five, element by element
pub five : {X : Type 0} (xs : List X) (d : X) → length xs ≡ 5 → xs ≡ get_or xs 0 d ∷ get_or xs 1 d ∷ get_or xs 2 d ∷ get_or xs 3 d ∷ get_or xs 4 d ∷ []
five (a ∷ b ∷ c ∷ d ∷ e ∷ []) z h = refl
five (a ∷ b ∷ c ∷ d ∷ e ∷ f ∷ xs) z h = absurd (omega arith)
five [] z h = absurd (omega arith)
five (a ∷ []) z h = absurd (omega arith)
five (a ∷ b ∷ []) z h = absurd (omega arith)
five (a ∷ b ∷ c ∷ []) z h = absurd (omega arith)
five (a ∷ b ∷ c ∷ d ∷ []) z h = absurd (omega arith)

-- a row fits where each of its marks does, as a chain tries them
pub row_zipped :
    (row : List Mark) (strips : List Reached) →
    length row ≡ length strips →
    list_all (λ (p : Mark × Reached). fits p.0 p.1) (zip row strips) ≡ row_fits row strips
row_zipped [] strips h = refl
row_zipped (m ∷ ms) [] h = absurd (omega arith)
row_zipped (m ∷ ms) (s ∷ ss) h = ap (λ b. fits m s && b) (row_zipped ms ss (omega arith))

pub place : (xs : List Reached) (i j : ℕ) → i ≡ j → get_or xs i nothing ≡ get_or xs j nothing
place xs i j e = ap (λ k. get_or xs k nothing) e

-- ---- sliding over a chip
-- strip n+2 comes into the window around the strip before n
pub slid_in : (chip : List Reached) (n : ℕ) → drop 1 (window (nothing ∷ chip) n) ++ get_or chip (n + 2) nothing ∷ [] ≡ window chip n
slid_in chip n =
    let front = nothing ∷ nothing ∷ chip in
    let more = nothing ∷ front in
    let e0 : get_or more (n + 1) nothing ≡ get_or front (n + 0) nothing = place more (n + 1) (suc (n + 0)) (omega arith) in
    let e1 : get_or more (n + 2) nothing ≡ get_or front (n + 1) nothing = place more (n + 2) (suc (n + 1)) (omega arith) in
    let e2 : get_or more (n + 3) nothing ≡ get_or front (n + 2) nothing = place more (n + 3) (suc (n + 2)) (omega arith) in
    let e3 : get_or more (n + 4) nothing ≡ get_or front (n + 3) nothing = place more (n + 4) (suc (n + 3)) (omega arith) in
    let e4 : get_or chip (n + 2) nothing ≡ get_or front (n + 4) nothing = sym (place front (n + 4) (suc (suc (n + 2))) (omega arith)) in
    cc

-- the window around strip n, before it slides on
pub slid_on : (chip : List Reached) (n : ℕ) → window chip n ≡ window (nothing ∷ chip) (n + 1)
slid_on chip n =
    let front = nothing ∷ nothing ∷ chip in
    let more = nothing ∷ front in
    let e0 : get_or more (n + 1 + 0) nothing ≡ get_or front (n + 0) nothing = place more (n + 1 + 0) (suc (n + 0)) (omega arith) in
    let e1 : get_or more (n + 1 + 1) nothing ≡ get_or front (n + 1) nothing = place more (n + 1 + 1) (suc (n + 1)) (omega arith) in
    let e2 : get_or more (n + 1 + 2) nothing ≡ get_or front (n + 2) nothing = place more (n + 1 + 2) (suc (n + 2)) (omega arith) in
    let e3 : get_or more (n + 1 + 3) nothing ≡ get_or front (n + 3) nothing = place more (n + 1 + 3) (suc (n + 3)) (omega arith) in
    let e4 : get_or more (n + 1 + 4) nothing ≡ get_or front (n + 4) nothing = place more (n + 1 + 4) (suc (n + 4)) (omega arith) in
    cc

-- a chip between two strips on either side that reach nothing
abbrev pub between_nothing : List Reached → List Reached
between_nothing chip = (nothing ∷ nothing ∷ chip) ++ nothing ∷ nothing ∷ []

-- beyond its end nothing is reached, as before
padded_reads : (xs : List Reached) (i : ℕ) → get_or (xs ++ nothing ∷ nothing ∷ []) i nothing ≡ get_or xs i nothing
padded_reads [] zero = refl
padded_reads [] (suc zero) = refl
padded_reads [] (suc (suc i)) = refl
padded_reads (x ∷ xs) zero = refl
padded_reads (x ∷ xs) (suc i) = padded_reads xs i

-- five strips from strip n of that on are the window around strip n of the chip
seen_at : (chip : List Reached) (n k : ℕ) → k < 5 → get_or (take 5 (drop n (between_nothing chip))) k nothing ≡ get_or (nothing ∷ nothing ∷ chip) (n + k) nothing
seen_at chip n k h =
    get_or-take 5 (drop n (between_nothing chip)) k nothing h
    ∙ get_or-drop n (between_nothing chip) k nothing
    ∙ padded_reads (nothing ∷ nothing ∷ chip) (n + k)

-- one window further on: what the window says is whether its strip belongs
pub turned :
    (chip rest more strips : List Reached) (n size : ℕ) (b : Bool) →
    length chip ≡ 128 →
    size ≡ 5 →
    rest ≡ drop n (between_nothing chip) →
    size ≤ length rest →
    strips ≡ take size rest →
    more ≡ drop 1 rest →
    b ≡ some_fits patterns strips →
    (n < 128) × (belongs chip n ≡ b) × (more ≡ drop (n + 1) (between_nothing chip))
unfolding belongs
turned chip rest more strips n size b long of_five e enough seen on says =
    let padded = between_nothing chip in
    let within : n < 128 = omega (arith, ap length e, length-drop n padded, length-append (nothing ∷ nothing ∷ chip) (nothing ∷ nothing ∷ [])) in
    let five_of : strips ≡ take 5 (drop n padded) = seen ∙ ap (λ k. take k rest) of_five ∙ ap (take 5) e in
    let full : length strips ≡ 5 = ap length seen ∙ length-take-le size rest enough ∙ of_five in
    let e0 = seen_at chip n 0 (omega arith) in
    let e1 = seen_at chip n 1 (omega arith) in
    let e2 = seen_at chip n 2 (omega arith) in
    let e3 = seen_at chip n 3 (omega arith) in
    let e4 = seen_at chip n 4 (omega arith) in
    let each = five strips nothing full in
    let around : strips ≡ window chip n = cc in
    (within, sym (says ∙ ap (some_fits patterns) around), on ∙ ap (drop 1) e ∙ drop-drop 1 n padded)

-- no window is left behind the chip's last strip
pub turned_last : (chip rest : List Reached) (n size : ℕ) → length chip ≡ 128 → size ≡ 5 → rest ≡ drop n (between_nothing chip) → length rest < size → n ≤ 128 → n ≡ 128
turned_last chip rest n size long of_five e short within =
    omega (arith, ap length e, length-drop n (between_nothing chip), length-append (nothing ∷ nothing ∷ chip) (nothing ∷ nothing ∷ []))
