use Rattle.std.proofs.Common.{◌≡◌}
use Rattle.card.proofs.Carrying.{Upto}
use Rattle.card.proofs.card.Card.carry_out.Given as goal

abbrev pub invariant-loop-i : goal.invariant-loop-i
invariant-loop-i g l =
    let before = l.initial.self in
    (l.self.rule ≡ before.rule)
    × Upto (g.R.Rule.meaning before.rule) before.state l.calls l.initial.answers l.initial.bytes l.i l.at l.self.state l.answers l.bytes
