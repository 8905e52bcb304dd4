use Rattle.std.proofs.Common.{◌+◌, ◌*◌, ◌<◌, drop, sym, ap, ◌∙◌, arith}
use Rattle.call_script.specs.Numbers.{digit_in, up_to}
use Rattle.call_script.proofs.Written.{written_more, too_large}
use Rattle.call_script.proofs.numbers.read_digits.Goals as goal

pub returns-then-longer-from : goal.returns-then-longer-from
returns-then-longer-from c =
    let base = c.args.base in
    let xs = c.args.word.now in
    let i = c.loop-byte.byte-index in
    let n = base * c.loop-byte.number + c.in_ok-digit.digit in
    let some : 0 < base = omega arith in
    let more = written_more (digit_in base) base c.loop-byte.number xs i c.in_ok-digit.digit c.loop-byte-test.true c.in_ok-digit.ensures.value in
    let over = simp (c.from.ensures, c.from-in-loop-byte.ensures, c.from-in-loop-byte-2.ensures, c.from-in-loop-byte-3.ensures) at c.if-longer-from.true in
    sym (ap (up_to c.args.limit) (sym c.loop-byte.invariant.0 ∙ more)
    ∙ too_large c.args.limit base (digit_in base) (drop (i + 1) xs) n some over)
