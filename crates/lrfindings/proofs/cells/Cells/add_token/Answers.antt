use Rattle.std.proofs.Common.{map}
use Rattle.lrfindings.specs.StoredCells.{complete, outcome_in}
use Rattle.lrfindings.proofs.CellsInTurn.{outcomes_are, nothing_listed, nothing_added, conflicts_added, resolved_added, no_conflicts_at, none_resolved_at, none_made_at, made_there}
use Rattle.lrfindings.proofs.cells.Cells.add_token.Goals as goal

pub returns-then-is_empty-clause-left : goal.returns-then-is_empty-clause-left
returns-then-is_empty-clause-left c =
    let grm = c.args.looked.grm.now in
    let h = c.args.looked.graph.now in
    let ps = c.list_at.new.productions in
    nothing_added _ _
    (no_conflicts_at grm h c.args.state.0 c.args.token (map complete c.args.reductions.now) ps.items c.requires.upwards c.requires.fits
    c.requires.reductions c.in_ok-list_at.ensures (nothing_listed ps.items _ c.is_empty.result c.is_empty.ensures c.if-is_empty.true ps.ok.0))

pub returns-clause-left : goal.returns-clause-left
returns-clause-left c =
    let grm = c.args.looked.grm.now in
    let h = c.args.looked.graph.now in
    let precedences = c.args.looked.rules.precedences.now in
    let t = c.args.token in
    conflicts_added grm h c.args.state.0 t (map complete c.args.reductions.now) c.list_at.new.productions.items c.requires.upwards
    c.requires.fits c.requires.reductions c.in_ok-list_at.ensures (outcome_in precedences t) c.shifts-shifts.result _ _
    (outcomes_are grm precedences c.requires.precedences t) c.shifts-shifts.ensures
    (rw (c.as_slice.ensures.value, c.from.ensures) at c.in_ok-made.ensures.left)

pub returns-then-is_empty-clause-resolved : goal.returns-then-is_empty-clause-resolved
returns-then-is_empty-clause-resolved c =
    let grm = c.args.looked.grm.now in
    let h = c.args.looked.graph.now in
    let ps = c.list_at.new.productions in
    nothing_added _ _
    (none_resolved_at grm h c.args.state.0 c.args.token (map complete c.args.reductions.now) ps.items c.requires.upwards c.requires.fits
    c.requires.reductions c.in_ok-list_at.ensures (nothing_listed ps.items _ c.is_empty.result c.is_empty.ensures c.if-is_empty.true ps.ok.0))

pub returns-clause-resolved : goal.returns-clause-resolved
returns-clause-resolved c =
    let grm = c.args.looked.grm.now in
    let h = c.args.looked.graph.now in
    let precedences = c.args.looked.rules.precedences.now in
    let t = c.args.token in
    resolved_added grm h c.args.state.0 t (map complete c.args.reductions.now) c.list_at.new.productions.items c.requires.upwards
    c.requires.fits c.requires.reductions c.in_ok-list_at.ensures (outcome_in precedences t) c.shifts-shifts.result _ _
    (outcomes_are grm precedences c.requires.precedences t) c.shifts-shifts.ensures
    (rw (c.as_slice.ensures.value, c.from.ensures) at c.in_ok-made.ensures.resolved)

pub returns-then-is_empty-clause-made : goal.returns-then-is_empty-clause-made
returns-then-is_empty-clause-made c =
    let ps = c.list_at.new.productions in
    none_made_at c.args.looked.grm.now c.args.looked.graph.now c.args.state.0 c.args.token (map complete c.args.reductions.now) ps.items c.requires.upwards
    c.requires.fits c.requires.reductions c.in_ok-list_at.ensures (nothing_listed ps.items _ c.is_empty.result c.is_empty.ensures c.if-is_empty.true ps.ok.0)

pub returns-clause-made : goal.returns-clause-made
returns-clause-made c =
    let grm = c.args.looked.grm.now in
    let precedences = c.args.looked.rules.precedences.now in
    let t = c.args.token in
    made_there grm c.args.looked.graph.now c.args.state.0 t (map complete c.args.reductions.now) c.list_at.new.productions.items c.requires.upwards
    c.requires.fits c.requires.reductions c.in_ok-list_at.ensures (outcome_in precedences t) c.shifts-shifts.result _
    (outcomes_are grm precedences c.requires.precedences t) c.shifts-shifts.ensures
    (rw (c.as_slice.ensures.value) at c.in_ok-made.ensures.made)
