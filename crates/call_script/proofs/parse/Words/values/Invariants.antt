use Rattle.std.proofs.Common.{◌≤◌, ◌+◌, vec_len}
use Rattle.call_script.proofs.parse.Words.values.Given as goal

abbrev pub invariant-loop-word : goal.invariant-loop-word
invariant-loop-word l = vec_len l.list + l.word-iterator.n ≤ 1000
