use Rattle.std.proofs.Common.{◌≡◌, ◌*◌, drop}
use Rattle.std.specs.List.{flat_map}
use Rattle.layout.specs.Event.{word}
use Rattle.layout.specs.Writing.{over}
use Rattle.layout.proofs.words.Words.write_all.Given as goal

-- with the words that are left, the buffer would be as it is to be
abbrev pub invariant-loop-i : goal.invariant-loop-i
invariant-loop-i l = over l.out (2 * l.i) (flat_map word (drop l.i l.self.list)) ≡ over l.initial.out 0 (flat_map word l.self.list)
