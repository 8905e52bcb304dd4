-- What a vote is for.
-- Assumes nothing.
use Rattle.std.specs.Prelude.{◌≡◌, ℕ, ◌<◌, Bool, true, false, List, ◌++◌, replicate}
use Rattle.std.specs.List.{AllZip, AllByRecursion}
use Rattle.terms.specs.declared.enable.Enable.TheVariants as enables
use Rattle.terms.specs.declared.pair.Side.{Side}
use Rattle.terms.specs.Terms.{part}
use Rattle.ticker.specs.Step.{blank}
use Rattle.synch.specs.declared.chips.Question.TheVariants.{InStep}
use Rattle.synch.specs.declared.standing.Standing.{Standing}
use Rattle.synch.specs.Vote.{votes, count, event, majority_header}
use Rattle.synch.specs.Status.{status_word}

-- every chip that votes has the header h
abbrev pub Agree : ℕ → List Standing → Type 0
Agree h xs = AllByRecursion (λ x. (side : Side) → votes x side ≡ true → part x.header.bytes side ≡ h) xs

-- where all voters agree, and there is one, the majority header is theirs
abbrev pub AgreedHeader : Type 0
AgreedHeader = (xs : List Standing) (h : ℕ) → h < 256 → Agree h xs → 0 < count InStep xs → majority_header xs ≡ h

-- the same chips of two fibres vote, with the same headers; all else may differ
abbrev pub SameVotes : Standing → Standing → Type 0
SameVotes x y =
    (side : Side) → (votes x side ≡ votes y side) × (votes x side ≡ true → part x.header.bytes side ≡ part y.header.bytes side)

-- no fibre out of step and no chip that is not enabled can change the majority header
abbrev pub OnlyVotersCount : Type 0
OnlyVotersCount = (xs ys : List Standing) → AllZip SameVotes xs ys → majority_header xs ≡ majority_header ys

-- a fibre in lock with both chips enabled, that pulses or not
abbrev pub locked_fibre : Bool → Standing
locked_fibre pulse = record { enable = enables.Both; in_lock = true; in_step = pulse; header = blank }

-- of 12 locked fibres with both chips, 7 pulses make an event and 6 none; a fibre in lock and in step whose headers
-- equal the majority's and whose error bits are bad has the status word 111010, one that is not in step 100000
abbrev pub WorkedExamples : Type 0
WorkedExamples =
    (event (replicate 7 (locked_fibre true) ++ replicate 5 (locked_fibre false)) ≡ true)
    × (event (replicate 6 (locked_fibre true) ++ replicate 6 (locked_fibre false)) ≡ false)
    × (status_word 0 (locked_fibre true) ≡ 0b111010)
    × (status_word 0 (locked_fibre false) ≡ 0b100000)
