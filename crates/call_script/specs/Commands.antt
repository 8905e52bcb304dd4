-- What holds of every command that was read from a line: its numbers keep the limits of the call script.
-- Assumes nothing.
use Rattle.std.specs.Prelude.{◌≡◌, ℕ, ◌≤◌, ◌⊎◌, List, Option, MatchOption, vec_len, ◌≢◌, slice_index}
use Rattle.call_script.specs.Words.{NoWord, FirstWord}
use Rattle.call_script.specs.declared.command.Memory.{Memory}
use Rattle.call_script.specs.declared.command.Memory.TheVariants as memories
use Rattle.call_script.specs.declared.command.CardCall.{CardCall}
use Rattle.call_script.specs.declared.command.CardCall.TheVariants as calls
use Rattle.call_script.specs.declared.command.Command.{Command}
use Rattle.call_script.specs.declared.command.Command.TheVariants as commands

-- a store over at most a million bytes or words
abbrev pub memory_size : Memory → ℕ
memory_size (memories.Bytes n) = n.number
memory_size (memories.Words n) = n.number

abbrev pub SmallMemory : Memory → Type 0
SmallMemory m = memory_size m ≤ 1000000

-- at most a hundred thousand Clocks, and a buffer of at most as many bytes
abbrev pub SmallCall : CardCall → Type 0
SmallCall (calls.Load w) = Unit {0}
SmallCall (calls.Clock n s) = n.number ≤ 100000
SmallCall calls.Ask = Unit {0}
SmallCall (calls.Fetch n) = n.number ≤ 100000
SmallCall calls.GiveBack = Unit {0}
SmallCall (calls.Level f) = Unit {0}
SmallCall calls.Reset = Unit {0}

-- the limits of a command; an estimate has at most a thousand values
abbrev pub KeepsLimits : Command → Type 0
KeepsLimits (commands.Card m r) = SmallMemory m
KeepsLimits commands.Swap = Unit {0}
KeepsLimits (commands.OfCard c) = SmallCall c
KeepsLimits (commands.Store m) = SmallMemory m
KeepsLimits (commands.OfStore c) = Unit {0}
KeepsLimits (commands.Rule r) = Unit {0}
KeepsLimits (commands.Estimate c s vs) = vec_len vs.list ≤ 1000
KeepsLimits (commands.Unpack bs) = Unit {0}
KeepsLimits commands.UnpackLast = Unit {0}
KeepsLimits (commands.OfEvent q) = Unit {0}

-- the first character of a line's first word is a number sign: such a line is a comment
abbrev pub Comment : List ℕ → Type 0
Comment line = (word : List ℕ) × (rest : List ℕ) × FirstWord line word rest × (slice_index word 0 ≡ 35)

-- a line that asks for nothing
abbrev pub Silent : List ℕ → Type 0
Silent line = NoWord line ⊎ Comment line

-- a line that asks for something: its first word is that of no comment
abbrev pub Speaks : List ℕ → Type 0
Speaks line = (word : List ℕ) × (rest : List ℕ) × FirstWord line word rest × (slice_index word 0 ≢ 35)

-- what a line asks for: nothing where it is silent
abbrev pub Asks : {A : Type 0} → List ℕ → Option A → Type 0
Asks line o = MatchOption o (Silent line) (λ _. Speaks line)
