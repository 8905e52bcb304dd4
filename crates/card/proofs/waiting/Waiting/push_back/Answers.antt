use Rattle.std.proofs.Common.{ℕ, set, refl, ap, arith}
use Rattle.card.proofs.Queue.{pushed, fewer}
use Rattle.card.proofs.waiting.Waiting.push_back.Goals as goal

pub invariant_of-self : goal.invariant_of-self
invariant_of-self c =
    let room = fewer c.self.inside _ c.self.view_is c.requires in
    (omega arith, omega arith)

pub returns : goal.returns
returns c =
    let room = fewer c.self.inside _ c.self.view_is c.requires in
    rw (← c.self.view_is)
    (pushed c.self.inside _ c.args.lengths c.self.invariant (omega arith) room
    (ap (λ (p : ℕ). set c.self.inside.rows p c.args.lengths) c.round-place.ensures.place) refl refl)
