-- Which strips of a chip belong to a cluster.
-- Assumes nothing.
use Rattle.std.specs.Prelude.{ℕ, ◌+◌, Bool, true, false, ◌&&◌, List, [], ◌∷◌, map, length, slice_index_or}
use Rattle.std.specs.List.{list_any, range_with_len}
use Rattle.clusters.specs.declared.pattern.Mark.{Mark}
use Rattle.clusters.specs.declared.pattern.Mark.TheVariants.{Any, Thresh1, Thresh2}
use Rattle.clusters.specs.declared.reached.Reached.{Reached}

-- beyond the ends of a chip nothing is reached
abbrev pub nothing : Reached
nothing = record { thresh1 = false; thresh2 = false }

-- the strips n−2 to n+2 of a chip, by what each reaches
abbrev pub window : List Reached → ℕ → List Reached
window strips n = map (λ k. slice_index_or (nothing ∷ nothing ∷ strips) (n + k) nothing) (0 ∷ 1 ∷ 2 ∷ 3 ∷ 4 ∷ [])

-- a strip is as a mark asks
abbrev pub fits : Mark → Reached → Bool
fits Any strip = true
fits Thresh1 strip = strip.thresh1
fits Thresh2 strip = strip.thresh2

-- each strip of a window is as its mark asks
abbrev pub row_fits : List Mark → List Reached → Bool
row_fits [] strips = true
row_fits (m ∷ ms) [] = false
row_fits (m ∷ ms) (s ∷ ss) = fits m s && row_fits ms ss

-- some row fits
abbrev pub some_fits : List (List Mark) → List Reached → Bool
some_fits rows strips = list_any (λ row. row_fits row strips) rows

-- the seven patterns for strips n−2 to n+2: XX2XX, X11XX, XX11X, X2X2X, 11X2X, X2X11, 11X11
abbrev pub patterns : List (List Mark)
patterns =
    (Any ∷ Any ∷ Thresh2 ∷ Any ∷ Any ∷ [])
    ∷ (Any ∷ Thresh1 ∷ Thresh1 ∷ Any ∷ Any ∷ [])
    ∷ (Any ∷ Any ∷ Thresh1 ∷ Thresh1 ∷ Any ∷ [])
    ∷ (Any ∷ Thresh2 ∷ Any ∷ Thresh2 ∷ Any ∷ [])
    ∷ (Thresh1 ∷ Thresh1 ∷ Any ∷ Thresh2 ∷ Any ∷ [])
    ∷ (Any ∷ Thresh2 ∷ Any ∷ Thresh1 ∷ Thresh1 ∷ [])
    ∷ (Thresh1 ∷ Thresh1 ∷ Any ∷ Thresh1 ∷ Thresh1 ∷ [])
    ∷ []

-- strip n of a chip belongs to a cluster if a pattern fits around it
unfoldable pub belongs : List Reached → ℕ → Bool
belongs strips n = some_fits patterns (window strips n)

-- for each strip of a chip, whether it belongs
abbrev pub belonging : List Reached → List Bool
belonging strips = map (belongs strips) (range_with_len 0 (length strips))
