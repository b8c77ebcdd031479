-- the answer of the search
use Rattle.std.proofs.Common.{map}
use Rattle.std.proofs.lemmas.List.Elements.{Contains-get_or}
use Rattle.lrgrammar.specs.Symbols.{symbol_of}
use Rattle.lrsearches.specs.StoredPlaces.{place_of}
use Rattle.lrsearches.proofs.StepsOfPlaces.{contains_map}
use Rattle.lrcontests.proofs.ReasonsOfPlaces.{reason_made}
use Rattle.lrcontests.proofs.contests.shortest_reason.Goals as goal

pub shortest_list-requires-clause-looking : goal.shortest_list-requires-clause-looking
shortest_list-requires-clause-looking g c =
    let number = g.T.IndexStorage.number in
    let places = c.in_ok-places.places.items in
    rw c.as_slice.ensures.value
    (λ k d l. c.in_ok-places.ensures.looking _ (contains_map (place_of number) _ places (Contains-get_or places k d l)))

pub shortest_list-requires-clause-states : goal.shortest_list-requires-clause-states
shortest_list-requires-clause-states g c =
    let number = g.T.IndexStorage.number in
    let places = c.in_ok-places.places.items in
    rw c.as_slice.ensures.value
    (λ k d l. c.in_ok-places.ensures.below _ (contains_map (place_of number) _ places (Contains-get_or places k d l)))

pub returns : goal.returns
returns g c =
    let number = g.T.IndexStorage.number in
    reason_made c.args.grm.now c.args.graph.now (number c.args.token.0) c.requires.ways.firsts.shape c.requires.graph
    (λ list. map (symbol_of number) list.items) c.shortest_list.result (place_of number c.args.place.now) (map (place_of number) c.in_ok-places.places.items)
    c.requires.first.0 c.requires.first.1 c.requires.first.2 c.in_ok-places.ensures (rw c.as_slice.ensures.value at c.shortest_list.ensures)
