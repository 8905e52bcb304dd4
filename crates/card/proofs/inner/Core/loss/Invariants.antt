use Rattle.std.proofs.Common.{◌≡◌, ℕ, ◌<◌, false}
use Rattle.card.specs.Event.{exceeds_by}
use Rattle.card.proofs.inner.Core.loss.Given as goal

abbrev pub invariant-loop-f : goal.invariant-loop-f
invariant-loop-f g l =
    (k : ℕ) → k < l.f → exceeds_by (g.S.Store.room l.store) (g.S.Store.lists l.store) l.lengths k ≡ false
