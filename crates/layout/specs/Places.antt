-- Where clusters may lie on the 256 strips of a fibre: left chip 0 to 127, right chip 128 to 255.
-- Assumes nothing.
use Rattle.std.specs.Prelude.{◌+◌, ◌/◌, ◌%◌, Bool, true, not, ◌&&◌, ◌||◌, List, [], ◌∷◌, ◌==◌, nat_le, nat_lt}
use Rattle.layout.specs.declared.run.Run.{Run}

-- a run has at least one strip and lies within its chip
abbrev pub placed : Run → Bool
placed r = nat_le 1 r.strips && nat_le (r.address % 128 + r.strips) 128

-- the addresses rise, and two strips are free between two runs of one chip
abbrev pub apart : Run → Run → Bool
apart p q =
    nat_lt p.address q.address && (not (p.address / 128 == q.address / 128) || nat_le (p.address + p.strips + 2) q.address)

-- runs in strip order, each in its place
abbrev pub spaced : List Run → Bool
spaced [] = true
spaced (p ∷ []) = placed p
spaced (p ∷ q ∷ rs) = placed p && (apart p q && spaced (q ∷ rs))
