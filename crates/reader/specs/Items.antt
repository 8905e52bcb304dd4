-- What stands one after the other in the bytes of a content, as an iterator over them gives it.
-- Assumes nothing.
use Rattle.std.specs.Prelude.{ℕ, zero, suc, ◌-◌, Bool, true, ◌&&◌, nat_lt, List, [], ◌∷◌, length, take, drop, nat_le, if◌then◌else◌}
use Rattle.layout.specs.declared.kind.Kind.{Kind}
use Rattle.layout.specs.declared.kind.Kind.TheVariants.{ZeroSuppressed, ProcessedRaw, VirginRaw}
use Rattle.layout.specs.Event.{Cluster, Content, suppressed, words, Event}
use Rattle.reader.specs.Questions.{number_in, mode_in}

-- each number is a byte
abbrev pub all_bytes : List ℕ → Bool
all_bytes [] = true
all_bytes (x ∷ xs) = nat_lt x 256 && all_bytes xs

-- the words, two bytes each; a last byte alone is none
abbrev pub words_in : List ℕ → List ℕ
words_in [] = []
words_in (x ∷ []) = []
words_in (lo ∷ hi ∷ xs) = number_in lo hi ∷ words_in xs

-- the clusters, up to the first that is not whole; `skip` bytes still belong to the cluster before
abbrev pub clusters_from : ℕ → List ℕ → List Cluster
clusters_from skip [] = []
clusters_from (suc n) (x ∷ xs) = clusters_from n xs
clusters_from zero (x ∷ []) = []
clusters_from zero (a ∷ n ∷ xs) =
    if nat_le n (length xs) then record { address = a; values = take n xs } ∷ clusters_from n xs else []

abbrev pub clusters_in : List ℕ → List Cluster
clusters_in xs = clusters_from 0 xs

-- the content of a record of a kind
abbrev pub content_in : Kind → List ℕ → Content
content_in ZeroSuppressed xs = suppressed (record { left = mode_in 0 xs; right = mode_in 2 xs }) (clusters_in (drop 4 xs))
content_in ProcessedRaw xs = words (words_in xs)
content_in VirginRaw xs = words (words_in xs)

-- the contents of records of a kind, up to the first that is not whole; `skip` bytes still belong to the record before
abbrev pub contents_from : Kind → ℕ → List ℕ → List Content
contents_from k skip [] = []
contents_from k (suc n) (x ∷ xs) = contents_from k n xs
contents_from k zero (x ∷ []) = []
contents_from k zero (x ∷ y ∷ []) = []
contents_from k zero (lo ∷ hi ∷ c ∷ xs) =
    if nat_le (number_in lo hi - 3) (length xs)
    then content_in k (take (number_in lo hi - 3) xs) ∷ contents_from k (number_in lo hi - 3) xs
    else []

abbrev pub contents_in : Kind → List ℕ → List Content
contents_in k xs = contents_from k 0 xs

-- the event of a kind
abbrev pub event_in : Kind → List ℕ → Event
event_in k xs = record { kind = k; contents = contents_in k xs }
