-- a turn for each visit
use Rattle.std.proofs.Common.{◌≡◌, ◌<◌, ◌∷◌, true, false, length, map, Some, sym, ◌∙◌, arith}
use Rattle.std.specs.Prelude.{slice_get}
use Rattle.std.specs.BinaryHeap.{heap_items}
use Rattle.std.proofs.lemmas.List.{length-map}
use Rattle.std.proofs.lemmas.List.Sorted.{length_permutation}
use Rattle.lrgrammar.specs.Symbols.{symbol_of}
use Rattle.lrsearches.specs.StoredPlaces.{place_of}
use Rattle.lrsearches.specs.Trails.{visit_of, visits_of, turns_of}
use Rattle.lrsearches.proofs.TrailsInTurn.{visit_at, turn_below, earlier_visits, list_answers, nothing_answers, all_grown}
use Rattle.lrsearches.proofs.TurnsOfSearch.{begin_searching, begin_visited, turn_searching, steps_below, begun_kept}
use Rattle.lrsearches.proofs.search.shortest_list.Given as given
use Rattle.lrsearches.proofs.search.shortest_list.Goals as goal
use Rattle.lrsearches.proofs.search.shortest_list.Goals.{In-Some, After-index}

pub begin-requires-clause-known : goal.begin-requires-clause-known
begin-requires-clause-known g c = rw c.new-search.ensures.visits c.new-search.ensures.known

pub begin-requires-clause-states : goal.begin-requires-clause-states
begin-requires-clause-states g c = λ k d l. rw c.requires.ways.distances (c.requires.states k d l)

pub loop-number-init : goal.loop-number-init
loop-number-init g c =
    let number = g.T.IndexStorage.number in
    let added = rw (c.new-search.ensures.visits, c.new-search.ensures.waiting) at c.in_ok-begin.ensures.added in
    record {
      known = c.in_ok-begin.ensures.known;
      searching = begin_searching number c.args.grm.now c.args.graph.now (number c.args.token.0) c.args.places.now c.requires.looking c.requires.states added;
      begun = begin_visited number c.args.grm.now c.args.graph.now (number c.args.token.0) c.args.places.now added;
    }

-- the visit whose turn it is stands in the list
turn_inside : (g : given.Over) (c : In-Some g) → c.in-Some.number < length c.loop-number.search.visits.items
turn_inside g c =
    turn_below _ _ _ _ (visit_of g.T.IndexStorage.number) c.loop-number.search.visits.items _ _ _ c.in-Some.ensures.turn c.loop-number.invariant.searching

-- and it is the one that was read there
turn_at :
    (g : given.Over) (c : After-index g)
    → slice_get (visits_of g.T.IndexStorage.number c.loop-number.search.visits.items) c.in-Some.number ≡ Some (visit_of g.T.IndexStorage.number c.index.result.now)
turn_at g c =
    let visit = visit_of g.T.IndexStorage.number in
    let items = c.loop-number.search.visits.items in
    let below = turn_below _ _ _ _ visit items _ _ _ c.in-Some.ensures.turn c.loop-number.invariant.searching in
    visit_at visit items c.in-Some.number c.index.result.now below (rw c.in-Some.ensures.visits at c.index.ensures)

pub index-requires : goal.index-requires
index-requires g c =
    let below = turn_inside g (goal.at.index-requires g c).In-Some in
    rw c.in-Some.ensures.visits (omega (arith, below, c.loop-number.search.visits.ok.0))

pub list_of-requires-clause-within : goal.list_of-requires-clause-within
list_of-requires-clause-within g c =
    rw (c.as_slice.ensures.value, c.in-Some.ensures.visits) (turn_inside g (goal.at.list_of-requires-clause-within g c).In-Some)

pub list_of-requires-clause-earlier : goal.list_of-requires-clause-earlier
list_of-requires-clause-earlier g c =
    rw (c.as_slice.ensures.value, c.in-Some.ensures.visits) (earlier_visits _ _ _ _ _ c.loop-number.invariant.searching.visits)

pub returns-then-is_goal : goal.returns-then-is_goal
returns-then-is_goal g c =
    let number = g.T.IndexStorage.number in
    let at = turn_at g (goal.at.returns-then-is_goal g c).After-index in
    let list = rw (c.as_slice.ensures.value, c.in-Some.ensures.visits) at c.in_ok-list.ensures in
    list_answers c.args.grm.now c.args.graph.now (number c.args.token.0) (map (place_of number) c.args.places.now) c.requires.graph _ c.in-Some.number
    (map (symbol_of number) c.in_ok-list.list.items) _ c.loop-number.invariant.searching.visits at (c.is_goal.ensures.0 c.if-is_goal.true) list

pub steps-requires-clause-state : goal.steps-requires-clause-state
steps-requires-clause-state g c =
    c.loop-number.invariant.searching.visits.below c.in-Some.number _ (turn_at g (goal.at.steps-requires-clause-state g c).After-index)

pub steps-requires-clause-looking : goal.steps-requires-clause-looking
steps-requires-clause-looking g c =
    c.loop-number.invariant.searching.visits.looking c.in-Some.number _ (turn_at g (goal.at.steps-requires-clause-looking g c).After-index)

pub go_on-requires-clause-known : goal.go_on-requires-clause-known
go_on-requires-clause-known g c = rw (c.in-Some.ensures.visits, c.in-Some.ensures.seen) c.loop-number.invariant.known

pub go_on-requires-clause-from : goal.go_on-requires-clause-from
go_on-requires-clause-from g c = rw c.in-Some.ensures.visits (turn_inside g (goal.at.go_on-requires-clause-from g c).In-Some)

pub go_on-requires-clause-states : goal.go_on-requires-clause-states
go_on-requires-clause-states g c =
    let number = g.T.IndexStorage.number in
    let n = c.in-Some.number in
    let v = visit_of number c.index.result.now in
    let at = turn_at g (goal.at.go_on-requires-clause-states g c).After-index in
    let state = c.loop-number.invariant.searching.visits.below n v at in
    rw (c.as_slice-in-Some.ensures.value, c.requires.ways.distances)
    (steps_below number c.args.grm.now c.args.graph.now (number c.args.token.0) c.args.places.now _ n v c.in_ok-steps.steps.items at state c.in_ok-steps.ensures)

pub loop-number-smaller : goal.loop-number-smaller
loop-number-smaller g c =
    let visit = visit_of g.T.IndexStorage.number in
    let added = rw (c.in-Some.ensures.visits, c.as_slice-in-Some.ensures.value) at c.in_ok-go_on.ensures.added in
    let grown = all_grown added in
    let ws = turns_of (heap_items c.loop-number.search.waiting) in
    let ys = turns_of (heap_items c.next_turn.new.self.waiting) in
    let fewer = length_permutation ws (c.in-Some.number ∷ ys) c.in-Some.ensures.turn in
    omega (
      arith,
      grown.0,
      grown.1,
      fewer,
      length-map c.loop-number.search.visits.items visit,
      length-map c.go_on.new.self.visits.items visit,
      length-map (heap_items c.loop-number.search.waiting) (λ r. r.0.visit),
      length-map (heap_items c.go_on.new.self.waiting) (λ r. r.0.visit),
      c.go_on.new.self.visits.ok.0,
      c.go_on.new.self.visits.small,
    )

pub loop-number-preserved : goal.loop-number-preserved
loop-number-preserved g c =
    let number = g.T.IndexStorage.number in
    let searching = c.loop-number.invariant.searching in
    let n = c.in-Some.number in
    let v = visit_of number c.index.result.now in
    let at = turn_at g (goal.at.loop-number-preserved g c).After-index in
    let state = searching.visits.below n v at in
    let added = rw (c.in-Some.ensures.visits, c.as_slice-in-Some.ensures.value) at c.in_ok-go_on.ensures.added in
    record {
      known = c.in_ok-go_on.ensures.known;
      searching =
          turn_searching number c.args.grm.now c.args.graph.now (number c.args.token.0) c.args.places.now _ n v c.in_ok-steps.steps.items at state _ _ c.in-Some.ensures.turn
          (λ k. let no : false ≡ true = sym c.if-is_goal.false ∙ c.is_goal.ensures.1 k in cc) c.in_ok-steps.ensures added searching;
      begun = begun_kept added (map (place_of number) c.args.places.now) c.loop-number.invariant.begun;
    }

pub returns : goal.returns
returns g c =
    let number = g.T.IndexStorage.number in
    nothing_answers c.args.grm.now c.args.graph.now (number c.args.token.0) (map (place_of number) c.args.places.now) c.requires.graph
    (visits_of number c.loop-number.search.visits.items) (turns_of (heap_items c.loop-number.search.waiting)) c.allocator.ensures.shape c.in_default.ensures.turn
    c.loop-number.invariant.begun c.loop-number.invariant.searching
