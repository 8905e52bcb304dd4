use Rattle.std.proofs.Common.{◌≤◌, length, arith}
use Rattle.card.specs.Abstraction.{rows_in, state_of}
use Rattle.card.proofs.Standing.{all_in_reach, capture_within, capture_stands}
use Rattle.card.proofs.card.Card.stands.Goals as goal

pub returns-clause-store : goal.returns-clause-store
unfolding state_of
returns-clause-store g c = rw (← c.self.view_is) (g.met.S.Store.sound c.self.inside.store)

pub returns-clause-waiting : goal.returns-clause-waiting
unfolding state_of
returns-clause-waiting g c =
    let few : length c.self.inside.core.waiting ≤ 255 = omega (arith, c.len.ensures.few, c.len.ensures.count) in
    rw (← c.self.view_is) few

pub returns-clause-tickers : goal.returns-clause-tickers
unfolding state_of
returns-clause-tickers g c = rw (← c.self.view_is) (all_in_reach c.self.inside.core.tickers)

pub returns-clause-capture : goal.returns-clause-capture
unfolding state_of
returns-clause-capture g c = rw (← c.self.view_is) (capture_within (rows_in c.self.inside.core.rows) c.self.inside.core.capture)

pub returns-clause-samples : goal.returns-clause-samples
unfolding state_of
returns-clause-samples g c = rw (← c.self.view_is) (capture_stands c.self.inside.core.rows c.self.inside.core.capture)
