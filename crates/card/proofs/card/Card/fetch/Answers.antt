use Rattle.card.proofs.Fetching.{fetch_refused, fetch_refused_short, fetch_done, bytes_written, oldest_long}
use Rattle.card.proofs.CardLaws.{keeps_laws}
use Rattle.card.proofs.card.Card.fetch.Goals as goal

pub returns-then-not-self-clause-step : goal.returns-then-not-self-clause-step
returns-then-not-self-clause-step g c = rw (← c.self.view_is) (fetch_refused _ _ _ _ _ c.if-not-self.true)

pub returns-then-not-self-clause-laws : goal.returns-then-not-self-clause-laws
returns-then-not-self-clause-laws g c = keeps_laws g.met.R.Rule.bounded g.S.Store g.met.S.Store.sound _ _ c.self.view_is _

pub returns-then-buffer-length-clause-step : goal.returns-then-buffer-length-clause-step
returns-then-buffer-length-clause-step g c =
    rw (← c.self.view_is)
    (fetch_refused_short _ _ _ c.oldest-lengths.result c.oldest-lengths.ensures _ _ _ c.if-not-self.false c.event_length-length.ensures
    c.if-buffer-length.true)

pub returns-then-buffer-length-clause-laws : goal.returns-then-buffer-length-clause-laws
returns-then-buffer-length-clause-laws g c = keeps_laws g.met.R.Rule.bounded g.S.Store g.met.S.Store.sound _ _ c.self.view_is _

pub returns-clause-step : goal.returns-clause-step
returns-clause-step g c =
    let core = c.self.inside.core in
    let lists = g.S.Store.lists c.self.inside.store in
    let room = g.S.Store.room c.self.inside.store in
    rw (← c.self.view_is)
    (fetch_done core lists room c.oldest-lengths.result c.oldest-lengths.ensures _ _ c.event_length-length.result c.if-not-self.false
    c.event_length-length.ensures c.if-buffer-length.false _ _ _ _ _ c.take_event.ensures.lists c.take_event.ensures.room
    c.pop_front.ensures c.take_event.ensures.out)

pub returns-clause-written : goal.returns-clause-written
returns-clause-written g c =
    let core = c.self.inside.core in
    let lists = g.S.Store.lists c.self.inside.store in
    let room = g.S.Store.room c.self.inside.store in
    let lengths = c.oldest-lengths.result in
    let same = c.oldest-lengths.ensures in
    let n = c.event_length-length.result in
    let long = c.event_length-length.ensures in
    rw (← c.self.view_is)
    (oldest_long core lists room lengths same n long, c.if-buffer-length.false, bytes_written core lists room lengths same _ _ n long c.take_event.ensures.out)

pub returns-clause-laws : goal.returns-clause-laws
returns-clause-laws g c = keeps_laws g.met.R.Rule.bounded g.S.Store g.met.S.Store.sound _ _ c.self.view_is _
