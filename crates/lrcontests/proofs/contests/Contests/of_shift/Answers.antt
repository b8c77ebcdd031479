-- a list for a conflict with a shift
use Rattle.std.proofs.Common.{◌<◌, length, map, refl}
use Rattle.std.specs.Prelude.{Contains}
use Rattle.lrspec.specs.grammars.Grammar.{token_count}
use Rattle.lrspec.specs.tables.Table.{shift_reduce_of}
use Rattle.lrgrammar.specs.Symbols.{symbol_of}
use Rattle.lrsearches.specs.Searches.{Place, Met}
use Rattle.lrsearches.specs.StoredPlaces.{need_of}
use Rattle.lrcontests.proofs.ReasonsOfPlaces.{mix_below, mix_reason, mix_contest, some_of_map}
use Rattle.lrcontests.proofs.contests.Contests.of_shift.Given as given
use Rattle.lrcontests.proofs.contests.Contests.of_shift.Goals as goal
use Rattle.lrcontests.proofs.contests.Contests.of_shift.Goals.{After-self, After-complete}

-- what the conflict names is there
named :
    (g : given.Over) (c : After-self g)
    → (g.T.IndexStorage.number c.args.stidx.0 < length c.self.inside.graph.now)
    × (g.T.IndexStorage.number c.args.pidx.0 < length c.self.inside.grm.now.productions)
    × (g.T.IndexStorage.number c.args.token.0 < token_count c.self.inside.grm.now)
named g c =
    let number = g.T.IndexStorage.number in
    mix_below c.self.inside.grm.now c.self.inside.graph.now c.self.invariant.0 (number c.args.token.0) (number c.args.pidx.0) (number c.args.stidx.0)
    (rw (← c.self.view_is) at c.requires)

module _ (g : given.Over) (c : After-complete g) where
  -- the place of the conflict
  abbrev place : Place
  place = record { state = g.T.IndexStorage.number c.args.stidx.0; first = need_of g.T.IndexStorage.number c.complete.result; second = Met }

  -- it is listed
  listed :
      Contains (shift_reduce_of c.self.inside.grm.now c.self.inside.graph.now)
      (g.T.IndexStorage.number c.args.token.0, g.T.IndexStorage.number c.args.pidx.0, g.T.IndexStorage.number c.args.stidx.0)
  listed = rw (← c.self.view_is) at c.requires

pub complete-requires : goal.complete-requires
complete-requires g c = (named g (goal.at.complete-requires g c).After-self).1

pub shortest_reason-requires-clause-graph : goal.shortest_reason-requires-clause-graph
shortest_reason-requires-clause-graph g c = c.self.invariant.0

pub shortest_reason-requires-clause-ways : goal.shortest_reason-requires-clause-ways
shortest_reason-requires-clause-ways g c = c.self.invariant.1

pub shortest_reason-requires-clause-state : goal.shortest_reason-requires-clause-state
shortest_reason-requires-clause-state g c = (named g (goal.at.shortest_reason-requires-clause-state g c).After-self).0

pub shortest_reason-requires-clause-first : goal.shortest_reason-requires-clause-first
shortest_reason-requires-clause-first g c = (_, _, c.complete.ensures)

pub shortest_reason-requires-clause-token : goal.shortest_reason-requires-clause-token
shortest_reason-requires-clause-token g c = (named g (goal.at.shortest_reason-requires-clause-token g c).After-self).2

pub unwrap-requires : goal.unwrap-requires
unwrap-requires g c =
    let at = (goal.at.unwrap-requires g c).After-complete in
    some_of_map (λ list. map (symbol_of g.T.IndexStorage.number) list.items) c.in_ok-list.list
    (mix_reason _ _ c.self.invariant.0 _ _ _ (listed g at) (place g at) refl c.complete.ensures refl _ c.in_ok-list.ensures)

pub returns : goal.returns
returns g c =
    let at = (goal.at.returns g c).After-complete in
    rw (← c.self.view_is)
    (mix_contest _ _ c.self.invariant.0 _ _ _ (listed g at) (place g at) refl c.complete.ensures (map (symbol_of g.T.IndexStorage.number) c.unwrap.result.items)
    (rw c.unwrap.ensures at c.in_ok-list.ensures))
