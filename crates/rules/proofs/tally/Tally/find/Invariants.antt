use Rattle.std.proofs.Common.{◌≡◌, ◌*◌, ◌<◌, ◌≤◌, take, sum}
use Rattle.rules.proofs.tally.Tally.find.Given as goal

abbrev pub invariant-loop-bin : goal.invariant-loop-bin
invariant-loop-bin l = record {
  adds : l.before ≡ sum (take l.bin l.self.counts);
  fewer : l.before < l.position;
  fits : l.before ≤ l.bin * 255;
}
