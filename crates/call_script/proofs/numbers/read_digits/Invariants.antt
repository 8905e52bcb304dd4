use Rattle.std.proofs.Common.{◌≡◌, ◌≤◌, drop}
use Rattle.call_script.specs.Numbers.{digit_in, written}
use Rattle.call_script.proofs.numbers.read_digits.Given as goal

-- the digits that are left write, behind the number so far, what all of them write
abbrev pub invariant-loop-byte : goal.invariant-loop-byte
invariant-loop-byte l =
    (written (digit_in l.base) l.base l.number (drop l.byte-index l.word) ≡ written (digit_in l.base) l.base 0 l.word)
    × (l.number ≤ l.limit)
