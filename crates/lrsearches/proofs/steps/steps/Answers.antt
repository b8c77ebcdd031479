-- the steps of a place
use Rattle.lrspec.specs.merging.Graph.{closed_of}
use Rattle.lrsearches.specs.StoredPlaces.{place_of, needs_of}
use Rattle.lrsearches.proofs.StepsOfPlaces.{looking_below, row_read, first_made, second_made, steps_of_first, steps_of_second}
use Rattle.lrsearches.proofs.steps.steps.Goals as goal

pub closes-requires-clause-fits : goal.closes-requires-clause-fits
closes-requires-clause-fits g c =
    rw c.closed_state-closed.ensures.items (c.requires.graph.closures.fit_closed (g.T.IndexStorage.number c.args.place.now.state.0) c.requires.state)

pub closes-requires-in-Some-closable-clause-fits : goal.closes-requires-in-Some-closable-clause-fits
closes-requires-in-Some-closable-clause-fits g c =
    rw c.closed_state-closed.ensures.items (c.requires.graph.closures.fit_closed (g.T.IndexStorage.number c.args.place.now.state.0) c.requires.state)

pub closes-requires-clause-production : goal.closes-requires-clause-production
closes-requires-clause-production g c =
    let number = g.T.IndexStorage.number in
    let s = number c.args.place.now.state.0 in
    looking_below c.args.grm.now (closed_of c.args.graph.now s) (number c.args.token.0) (number c.in-Some.pidx.0) 0 _
    (c.requires.graph.closures.fit_closed s c.requires.state) c.requires.looking.0 c.in-Some.ensures.item

pub closes-requires-in-Some-closable-clause-production : goal.closes-requires-in-Some-closable-clause-production
closes-requires-in-Some-closable-clause-production g c =
    let number = g.T.IndexStorage.number in
    let s = number c.args.place.now.state.0 in
    looking_below c.args.grm.now (closed_of c.args.graph.now s) (number c.args.token.0) (number c.in-Some-closable.pidx.0) 0 _
    (c.requires.graph.closures.fit_closed s c.requires.state) c.requires.looking.1 c.in-Some-closable.ensures.item

pub returns-in-Some : goal.returns-in-Some
returns-in-Some g c =
    let number = g.T.IndexStorage.number in
    let t = number c.args.token.0 in
    let needs = c.in_ok-needs.needs.items in
    let closes = rw c.closed_state-closed.ensures.items at c.in_ok-needs.ensures in
    first_made number c.args.grm.now c.args.graph.now t c.args.place.now needs c.with_needs.result
    (steps_of_first c.args.grm.now c.args.graph.now t (place_of number c.args.place.now) (number c.in-Some.pidx.0) (needs_of number needs)
    c.in-Some.ensures.item c.in-Some.ensures.apart c.requires.looking closes)
    (rw c.as_slice.ensures.value at c.with_needs.ensures)

pub returns-in-Some-closable : goal.returns-in-Some-closable
returns-in-Some-closable g c =
    let number = g.T.IndexStorage.number in
    let t = number c.args.token.0 in
    let needs = c.in_ok-needs-2.needs.items in
    let closes = rw c.closed_state-closed.ensures.items at c.in_ok-needs-2.ensures in
    second_made number c.args.grm.now c.args.graph.now t c.args.place.now needs c.with_needs-in-Some-closable.result
    (steps_of_second c.args.grm.now c.args.graph.now t (place_of number c.args.place.now) (number c.in-Some-closable.pidx.0) (needs_of number needs)
    c.requires.ways.firsts.shape c.in_default.ensures.settled c.in-Some-closable.ensures.item c.requires.looking closes)
    (rw c.as_slice-in-Some-closable.ensures.value at c.with_needs-in-Some-closable.ensures)

pub backs-requires-clause-row : goal.backs-requires-clause-row
backs-requires-clause-row g c =
    let number = g.T.IndexStorage.number in
    let s = number c.args.place.now.state.0 in
    row_read number c.args.graph.now c.args.ways.now.incoming.items c.from.result s c.index.result.now c.as_slice-incoming.result.now
    c.as_slice-incoming.ensures.value c.index.ensures c.from.ensures
    (c.requires.ways.incoming.rows s c.index.result.now c.requires.state)
