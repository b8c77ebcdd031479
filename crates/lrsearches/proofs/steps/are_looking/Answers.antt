-- closed states fit the grammar
use Rattle.lrsearches.proofs.steps.are_looking.Goals as goal

pub is_looking-requires-clause-fits : goal.is_looking-requires-clause-fits
is_looking-requires-clause-fits g c =
    rw c.closed_state-closed.ensures.items (c.requires.graph.closures.fit_closed (g.T.IndexStorage.number c.args.place.now.state.0) c.requires.state)

pub is_looking-requires-then-is_looking-clause-fits : goal.is_looking-requires-then-is_looking-clause-fits
is_looking-requires-then-is_looking-clause-fits g c =
    rw c.closed_state-closed.ensures.items (c.requires.graph.closures.fit_closed (g.T.IndexStorage.number c.args.place.now.state.0) c.requires.state)
