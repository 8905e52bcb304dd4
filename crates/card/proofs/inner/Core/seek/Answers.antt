use Rattle.std.proofs.Common.{List, sym, refl, ap, ◌∙◌}
use Rattle.synch.specs.declared.standing.Standing.{Standing}
use Rattle.synch.specs.Vote.{event}
use Rattle.card.specs.Abstraction.{watches_in}
use Rattle.card.proofs.Ticking.{no_event}
use Rattle.card.proofs.Clocking.{none_sought, begins}
use Rattle.card.proofs.inner.Core.seek.Goals as goal

pub returns-then-none_pulses : goal.returns-then-none_pulses
returns-then-none_pulses c =
    none_sought c.args.self.now c.args.pulses c.requires
    (no_event c.args.self.now.settings (watches_in c.args.self.now.tickers) c.args.pulses
    (c.none_pulses.ensures c.if-none_pulses.true))

pub returns-then-event_begins : goal.returns-then-event_begins
returns-then-event_begins c =
    begins c.args.self.now c.args.pulses _ refl refl
    (sym (ap (λ (xs : List Standing). event xs) c.standings-fibres.ensures) ∙ (sym c.event_begins.ensures ∙ c.if-event_begins.true))

pub returns-else-event_begins : goal.returns-else-event_begins
returns-else-event_begins c =
    none_sought c.args.self.now c.args.pulses c.requires
    (sym (ap (λ (xs : List Standing). event xs) c.standings-fibres.ensures) ∙ (sym c.event_begins.ensures ∙ c.if-event_begins.false))
