-- productions, each with its place and those of its symbols
use Rattle.std.specs.Prelude.{List, [], ◌∷◌}
use Rattle.std.specs.declared.vec.Vec.{Vec}
use Rattle.std.specs.declared.alloc.Global.{Global}
use Rattle.lrspec.specs.grammars.Grammar.{Production}
use Rattle.lrgrammar.specs.declared.grammar.PartProd.{PartProd}
use Rattle.lrgrammar.specs.StoredParts.{part_production_of}
use Rattle.lryacc.specs.declared.numbering.FileGrammar.{FileGrammar}
use Rattle.lryacc.specs.declared.places.Span.{Span}
use Rattle.lryacc.specs.declared.productions.Productions.{Productions}

-- a production: its rule, its symbols and what it names for its precedence; where it stands, and where its symbols do
pub record PlacedProduction : Type 0 where
  pub production : Production
  pub place : Span
  pub symbol_places : List Span

-- a production that stands here
abbrev pub placed_at : PartProd → Span → List Span → PlacedProduction
placed_at prod place symbol_places =
    record {
      production = part_production_of prod;
      place = place;
      symbol_places = symbol_places;
    }

-- productions with their places, one after another
abbrev pub with_places : List PartProd → List Span → List (Vec Span Global) → List PlacedProduction
with_places [] places symbol_places = []
with_places (prod ∷ prods) [] symbol_places = []
with_places (prod ∷ prods) (place ∷ places) [] = []
with_places (prod ∷ prods) (place ∷ places) (symbols ∷ symbol_places) =
    placed_at prod place symbols.items ∷ with_places prods places symbol_places

-- the productions so far
abbrev pub placed : Productions → List PlacedProduction
placed all = with_places all.prods.items all.places.items all.symbol_places.items

-- the productions of a grammar
abbrev pub placed_in : FileGrammar → List PlacedProduction
placed_in file =
    with_places file.parts.prods.items file.production_places.items file.symbol_places.items
