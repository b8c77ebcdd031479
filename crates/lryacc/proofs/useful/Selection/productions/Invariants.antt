use Rattle.std.proofs.Common.{◌≡◌, [], All, IsSome, is_some, map, take}
use Rattle.std.specs.List.{filter}
use Rattle.lryacc.specs.KeptProductions.{new_placed}
use Rattle.lryacc.specs.PlacedProductions.{placed, with_places}
use Rattle.lryacc.specs.ProductionPlaces.{ArePlaced}
use Rattle.lryacc.specs.UsefulRules.{is_useful}
use Rattle.lryacc.proofs.useful.Selection.productions.Given as goal

abbrev pub invariant-loop-at : goal.invariant-loop-at
invariant-loop-at l =
    let prods = take l.at l.whole.parts.prods.items in
    let places = take l.at l.whole.production_places.items in
    let symbols = take l.at l.whole.symbol_places.items in
    record {
      stay : placed l.kept ≡ map (new_placed l.self.numbers.items) (filter (λ at. is_useful l.self.productive.found.items (map is_some l.self.numbers.items) at.production) (with_places prods places symbols));
      are_placed : ArePlaced l.kept;
      all : All (λ number. IsSome number) l.self.numbers.items → l.useless.items ≡ []
          → placed l.kept ≡ map (new_placed l.self.numbers.items) (with_places prods places symbols);
    }
