-- one more production with its places
use Rattle.std.proofs.Common.{◌≡◌, ℕ, ◌+◌, ◌<◌, List, [], ◌∷◌, ◌++◌, length, get_or, take, refl, ap, ◌∙◌, arith, length-take}
use Rattle.std.proofs.lemmas.List.{take_more}
use Rattle.std.specs.declared.vec.Vec.{Vec}
use Rattle.std.specs.declared.alloc.Global.{Global}
use Rattle.lrgrammar.specs.declared.grammar.PartProd.{PartProd}
use Rattle.lryacc.specs.PlacedProductions.{PlacedProduction, placed, placed_at, with_places}
use Rattle.lryacc.specs.ProductionPlaces.{ArePlaced}
use Rattle.lryacc.specs.declared.places.Span.{Span}
use Rattle.lryacc.specs.declared.productions.Productions.{Productions}

-- a production is added behind others, which have as many places
pub with_places-push : (prods : List PartProd) (places : List Span) (symbols : List (Vec Span Global)) (prod : PartProd) (place : Span) (own : Vec Span Global) → length places ≡ length prods → length symbols ≡ length prods → with_places (prods ++ prod ∷ []) (places ++ place ∷ []) (symbols ++ own ∷ []) ≡ with_places prods places symbols ++ placed_at prod place own.items ∷ []
with_places-push [] [] [] prod place own p q = refl
with_places-push [] (_ ∷ _) symbols prod place own p q = absurd (omega arith)
with_places-push [] [] (_ ∷ _) prod place own p q = absurd (omega arith)
with_places-push (_ ∷ prods) [] symbols prod place own p q = absurd (omega arith)
with_places-push (_ ∷ prods) (_ ∷ places) [] prod place own p q = absurd (omega arith)
with_places-push (a ∷ prods) (b ∷ places) (c ∷ symbols) prod place own p q =
    let shorter : length places ≡ length prods = omega arith in
    let fewer : length symbols ≡ length prods = omega arith in
    ap (λ (more : List PlacedProduction). placed_at a b c.items ∷ more) (with_places-push prods places symbols prod place own shorter fewer)

-- the same of productions that have a place each
pub placed-push : {all : Productions} (prod : PartProd) (place : Span) (own : Vec Span Global) → ArePlaced all → with_places (all.prods.items ++ prod ∷ []) (all.places.items ++ place ∷ []) (all.symbol_places.items ++ own ∷ []) ≡ placed all ++ placed_at prod place own.items ∷ []
placed-push {all} prod place own is =
    let places : length all.places.items ≡ length all.prods.items = omega (arith, is.places, all.places.ok.0, all.prods.ok.0) in
    let symbols : length all.symbol_places.items ≡ length all.prods.items =
    omega (arith, is.symbol_places, all.symbol_places.ok.0, all.prods.ok.0) in
    with_places-push all.prods.items all.places.items all.symbol_places.items prod place own places symbols

-- one more of several productions with their places is looked at
pub with_places-take : (prods : List PartProd) (places : List Span) (symbols : List (Vec Span Global)) (i : ℕ) (prod : PartProd) (place : Span) (own : Vec Span Global) → i < length prods → length places ≡ length prods → length symbols ≡ length prods → get_or prods i prod ≡ prod → get_or places i place ≡ place → get_or symbols i own ≡ own → with_places (take (i + 1) prods) (take (i + 1) places) (take (i + 1) symbols) ≡ with_places (take i prods) (take i places) (take i symbols) ++ placed_at prod place own.items ∷ []
with_places-take prods places symbols i prod place own below p q at_prod at_place at_own =
    let below_place : i < length places = omega arith in
    let below_own : i < length symbols = omega arith in
    let prods_more : take (i + 1) prods ≡ take i prods ++ prod ∷ [] =
    take_more prods i prod below ∙ ap (λ (x : PartProd). take i prods ++ x ∷ []) at_prod in
    let places_more : take (i + 1) places ≡ take i places ++ place ∷ [] =
    take_more places i place below_place ∙ ap (λ (x : Span). take i places ++ x ∷ []) at_place in
    let symbols_more : take (i + 1) symbols ≡ take i symbols ++ own ∷ [] =
    take_more symbols i own below_own ∙ ap (λ (x : Vec Span Global). take i symbols ++ x ∷ []) at_own in
    let as_many : length (take i places) ≡ length (take i prods) = omega (arith, length-take i places, length-take i prods) in
    let as_many_owns : length (take i symbols) ≡ length (take i prods) = omega (arith, length-take i symbols, length-take i prods) in
    rw (prods_more, places_more, symbols_more) (with_places-push (take i prods) (take i places) (take i symbols) prod place own as_many as_many_owns)
