use Rattle.std.proofs.Common.{vec_items, ◌∙◌}
use Rattle.std.specs.Slice.Iter.{chunks_rest}
use Rattle.call_script.proofs.Written.{chunk_more}
use Rattle.call_script.proofs.numbers.read_bytes.Goals as goal

pub loop-digits-preserved : goal.loop-digits-preserved
loop-digits-preserved c =
    let steps = c.in-Some.ensures.steps in
    let left = chunks_rest c.next.new.self in
    let more = chunk_more c.in-Some.digits.now left (vec_items c.loop-digits.bytes) c.in-Some-read_byte.byte c.in-Some-read_byte.ensures in (
      steps.0 ∙ c.loop-digits.invariant.0,
      simp c.in_ok-push.ensures.items ((rw (← steps.1.0) at more) ∙ c.loop-digits.invariant.1),
    )
