-- a turn for each edge that leads into the state
use Rattle.std.proofs.Common.{◌≡◌, true, false, inl, inr, sym, ◌∙◌}
use Rattle.std.proofs.lemmas.List.{map-append}
use Rattle.lrgrammar.specs.Symbols.{symbol_of}
use Rattle.lrsearches.specs.StoredPlaces.{place_of, need_of, steps_of}
use Rattle.lrsearches.proofs.StepsOfPlaces.{edge_below, row_at, row_left, row_none, no_backs, begin_backs, blind_back, next_back, end_backs}
use Rattle.lrsearches.proofs.steps.backs.Goals as goal
use Rattle.lrsearches.proofs.steps.backs.Goals.{then-are_looking+in_ok-push, else-are_looking}

pub returns-in_default : goal.returns-in_default
returns-in_default g c =
    let number = g.T.IndexStorage.number in
    rw c.new-steps.ensures.items
    (no_backs c.args.grm.now c.args.graph.now (number c.args.token.0) (place_of number c.args.place.now) c.allocator.ensures.shape c.requires.first c.requires.second (inl c.in_default.ensures))

pub returns-in_default-moved_back : goal.returns-in_default-moved_back
returns-in_default-moved_back g c =
    let number = g.T.IndexStorage.number in
    rw c.new-steps.ensures.items
    (no_backs c.args.grm.now c.args.graph.now (number c.args.token.0) (place_of number c.args.place.now) c.allocator.ensures.shape c.requires.first c.requires.second (inr c.in_default-moved_back.ensures))

pub loop-edge-init : goal.loop-edge-init
loop-edge-init g c =
    let number = g.T.IndexStorage.number in
    rw c.new-steps.ensures.items
    (begin_backs c.args.grm.now c.args.graph.now (number c.args.token.0) (place_of number c.args.place.now) _ _ _ c.requires.row)

pub are_looking-requires-clause-state : goal.are_looking-requires-clause-state
are_looking-requires-clause-state g c =
    let number = g.T.IndexStorage.number in
    let edge = c.edge-item.result in
    let at = row_at number c.args.incoming.now c.loop-edge.edge-index edge c.loop-edge-test.true c.edge-item.is in
    edge_below c.args.graph.now (number edge.1.0) (number c.args.place.now.state.0) (symbol_of number edge.0) ((c.requires.row (symbol_of number edge.0) (number edge.1.0)).0 at)

pub loop-edge-preserved : goal.loop-edge-preserved
loop-edge-preserved g c =
    let number = g.T.IndexStorage.number in
    let edge = c.edge-item.result in
    let at = row_at number c.args.incoming.now c.loop-edge.edge-index edge c.loop-edge-test.true c.edge-item.is in
    let is = (c.requires.row (symbol_of number edge.0) (number edge.1.0)).0 at in
    let left = row_left number c.args.incoming.now c.loop-edge.edge-index edge c.loop-edge-test.true c.edge-item.is in
    let backs = rw left at c.loop-edge.invariant in
    elim c.if-are_looking.branch [
      | then-are_looking+in_ok-push w ↦
          rw (w.steps-is, w.in_ok-push.ensures.items, map-append)
          (next_back c.args.grm.now c.args.graph.now (number c.args.token.0) (place_of number c.args.place.now) (need_of number c.in-Some.first) (need_of number c.in-Some-moved_back.second)
          (symbol_of number edge.0) (number edge.1.0) (steps_of number c.loop-edge.steps.items) _ is c.in-Some.ensures c.in-Some-moved_back.ensures
          (c.are_looking.ensures.0 w.if-are_looking.true) backs)
      | else-are_looking w ↦
          rw w.steps-is
          (blind_back c.args.grm.now c.args.graph.now (number c.args.token.0) (place_of number c.args.place.now) (need_of number c.in-Some.first) (need_of number c.in-Some-moved_back.second)
          (symbol_of number edge.0) (number edge.1.0) (steps_of number c.loop-edge.steps.items) _
          (λ l. let no : false ≡ true = sym w.if-are_looking.false ∙ c.are_looking.ensures.1 l in cc) backs)
    ]

pub returns : goal.returns
returns g c =
    let number = g.T.IndexStorage.number in
    end_backs c.args.grm.now c.args.graph.now (number c.args.token.0) (place_of number c.args.place.now) _ _
    (steps_of number c.loop-edge.steps.items) _ c.allocator.ensures.shape c.requires.first c.requires.second c.in-Some.ensures c.in-Some-moved_back.ensures
    (row_none number c.args.incoming.now c.loop-edge.edge-index c.loop-edge-test.false) c.loop-edge.invariant
