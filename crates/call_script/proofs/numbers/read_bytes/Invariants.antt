use Rattle.std.proofs.Common.{◌≡◌, ◌++◌, Some, vec_items}
use Rattle.std.specs.Slice.Iter.{chunks_rest, chunks_size}
use Rattle.call_script.specs.Numbers.{and_then, bytes_in}
use Rattle.call_script.proofs.numbers.read_bytes.Given as goal

-- the bytes so far, and behind them those of the digits that are left, are the bytes of all digits
abbrev pub invariant-loop-digits : goal.invariant-loop-digits
invariant-loop-digits l =
    (chunks_size l.digits-iterator ≡ 2)
    × (and_then (bytes_in (chunks_rest l.digits-iterator)) (λ bs. Some (vec_items l.bytes ++ bs)) ≡ bytes_in l.word)
