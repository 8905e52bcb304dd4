-- Limits of the numbers of a record, as tests.
-- Assumes nothing.
use Rattle.std.specs.Prelude.{ℕ, Bool, List, nat_le, nat_lt}
use Rattle.std.specs.List.{list_all}
use Rattle.layout.specs.declared.run.Run.{Run}

-- none of the numbers is above a limit
abbrev pub at_most : ℕ → List ℕ → Bool
at_most limit xs = list_all (λ x. nat_le x limit) xs

-- the runs begin on the 256 strips of a fibre
abbrev pub on_fibre : List Run → Bool
on_fibre rs = list_all (λ r. nat_lt r.address 256) rs
