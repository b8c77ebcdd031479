-- productions that are added
use Rattle.std.proofs.Common.{List, ap, length, arith}
use Rattle.std.proofs.lemmas.List.{length-append}
use Rattle.lryacc.specs.declared.places.Span.{Span}
use Rattle.lryacc.specs.declared.productions.Productions.{Productions}
use Rattle.lryacc.specs.ProductionPlaces.{Adds, ArePlaced}

-- productions that have a place each are added to such
pub ArePlaced-Adds : {old new : Productions} {added : List Span} → ArePlaced old → Adds old new added → ArePlaced new
ArePlaced-Adds {old} {new} {added} placed adds = record {
  places =
      omega (arith, placed.places, adds.count, ap length adds.places, length-append old.places.items added, old.places.ok.0, new.places.ok.0);
  symbol_places = omega (arith, placed.symbol_places, adds.count, adds.symbol_places);
}
