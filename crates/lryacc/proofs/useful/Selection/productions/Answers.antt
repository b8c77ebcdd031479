use Rattle.std.proofs.Common.{◌≡◌, ◌<◌, ◌≤◌, ◌++◌, List, [], ◌∷◌, length, is_some, true, false, map, ap, sym, ◌∙◌, arith}
use Rattle.std.specs.List.{filter}
use Rattle.lrgrammar.specs.StoredParts.{part_production_of, part_symbol_of}
use Rattle.std.proofs.lemmas.Bool.{false≢true}
use Rattle.std.proofs.lemmas.List.{length_push}
use Rattle.lryacc.proofs.AddedProductions.{ArePlaced-Adds}
use Rattle.lryacc.proofs.KeptLemmas.{new_placed-take, with_places-all}
use Rattle.lryacc.proofs.PlacedLemmas.{with_places-take}
use Rattle.lryacc.proofs.UsefulLemmas.{filter-drops, filter-keeps, is_useful-both, is_useful-unproductive, is_useful-unreached}
use Rattle.lryacc.specs.KeptProductions.{new_placed}
use Rattle.lryacc.specs.PlacedProductions.{PlacedProduction, placed_at}
use Rattle.lryacc.specs.UsefulRules.{has_all, is_useful}
use Rattle.lryacc.proofs.useful.Selection.productions.Goals as goal

pub loop-at-init : goal.loop-at-init
loop-at-init c = record {
  stay = c.new-kept.ensures.none;
  are_placed = c.new-kept.ensures.placed;
  all = λ _ _. c.new-kept.ensures.none;
}

-- the rule of the production is gone
pub loop-at-preserved-in_default : goal.loop-at-preserved-in_default
loop-at-preserved-in_default c =
    let productive = c.args.self.now.productive.found.items in
    let reached = map is_some c.args.self.now.numbers.items in
    let whole = c.args.whole.now in
    let prods = whole.parts.prods in
    let places = whole.production_places in
    let symbols = whole.symbol_places in
    let below : c.loop-at.at < length prods.items = omega (arith, prods.ok.0) in
    let many : length places.items ≡ length prods.items = omega (arith, c.requires.places, places.ok.0, prods.ok.0) in
    let many_symbols : length symbols.items ≡ length prods.items = omega (arith, c.requires.symbol_places, symbols.ok.0, prods.ok.0) in
    record {
      stay =
          filter-drops (new_placed c.args.self.now.numbers.items) (λ (at : PlacedProduction). is_useful productive reached at.production) _ _ _ _
          (with_places-take prods.items places.items symbols.items c.loop-at.at c.index-prod.result.now c.index-place.result.now c.index-symbol_places.result.now below many many_symbols (sym c.index-prod.ensures) (sym c.index-place.ensures) (sym c.index-symbol_places.ensures))
          (is_useful-unreached productive reached (part_production_of c.index-prod.result.now) (sym c.in_default.ensures.has))
          c.loop-at.invariant.stay;
      are_placed = c.loop-at.invariant.are_placed;
      all = λ stays _. absurd (false≢true (c.in_default.ensures.stays stays));
    }

-- the production is noted
pub loop-at-preserved-then-not-has_all : goal.loop-at-preserved-then-not-has_all
loop-at-preserved-then-not-has_all c =
    let productive = c.args.self.now.productive.found.items in
    let reached = map is_some c.args.self.now.numbers.items in
    let none : has_all productive (map part_symbol_of c.index-prod.result.now.symbols.items) ≡ false =
    rw (← c.as_slice.ensures.value) (sym c.has_all.ensures ∙ c.if-not-has_all.true) in
    let whole = c.args.whole.now in
    let prods = whole.parts.prods in
    let places = whole.production_places in
    let symbols = whole.symbol_places in
    let below : c.loop-at.at < length prods.items = omega (arith, prods.ok.0) in
    let many : length places.items ≡ length prods.items = omega (arith, c.requires.places, places.ok.0, prods.ok.0) in
    let many_symbols : length symbols.items ≡ length prods.items = omega (arith, c.requires.symbol_places, symbols.ok.0, prods.ok.0) in
    record {
      stay =
          filter-drops (new_placed c.args.self.now.numbers.items) (λ (at : PlacedProduction). is_useful productive reached at.production) _ _ _ _
          (with_places-take prods.items places.items symbols.items c.loop-at.at c.index-prod.result.now c.index-place.result.now c.index-symbol_places.result.now below many many_symbols (sym c.index-prod.ensures) (sym c.index-place.ensures) (sym c.index-symbol_places.ensures))
          (is_useful-unproductive productive reached (part_production_of c.index-prod.result.now) none)
          c.loop-at.invariant.stay;
      are_placed = c.loop-at.invariant.are_placed;
      all = λ _ e.
          let noted = ap length (sym c.in_ok-push.ensures.items ∙ e) in
          absurd (omega (arith, noted, length_push c.loop-at.useless.items c.index-place.result.now));
    }

-- the production stays
pub loop-at-preserved : goal.loop-at-preserved
loop-at-preserved c =
    let productive = c.args.self.now.productive.found.items in
    let reached = map is_some c.args.self.now.numbers.items in
    let has_productive : has_all productive (map part_symbol_of c.index-prod.result.now.symbols.items) ≡ true =
    rw (← c.as_slice.ensures.value) (sym c.has_all.ensures ∙ c.if-not-has_all.false) in
    let whole = c.args.whole.now in
    let numbers = c.args.self.now.numbers.items in
    let prods = whole.parts.prods in
    let places = whole.production_places in
    let symbols = whole.symbol_places in
    let below : c.loop-at.at < length prods.items = omega (arith, prods.ok.0) in
    let many : length places.items ≡ length prods.items = omega (arith, c.requires.places, places.ok.0, prods.ok.0) in
    let many_symbols : length symbols.items ≡ length prods.items = omega (arith, c.requires.symbol_places, symbols.ok.0, prods.ok.0) in
    let more =
    new_placed-take numbers prods.items places.items symbols.items c.loop-at.at c.index-prod.result.now c.index-place.result.now c.index-symbol_places.result.now below many many_symbols c.index-prod.ensures c.index-place.ensures c.index-symbol_places.ensures in
    let stays_so =
    new_placed numbers (placed_at c.index-prod.result.now c.index-place.result.now c.index-symbol_places.result.now.items) in
    let added = rw c.as_slice-in-loop-at.ensures.value at (c.in_ok-keep.ensures.added c.loop-at.invariant.are_placed c.in-Some.ensures.number) in
    record {
      stay =
          filter-keeps (new_placed numbers) (λ (at : PlacedProduction). is_useful productive reached at.production) _ _ _ _ _
          (with_places-take prods.items places.items symbols.items c.loop-at.at c.index-prod.result.now c.index-place.result.now c.index-symbol_places.result.now below many many_symbols (sym c.index-prod.ensures) (sym c.index-place.ensures) (sym c.index-symbol_places.ensures))
          (is_useful-both productive reached (part_production_of c.index-prod.result.now) (sym c.in-Some.ensures.has) has_productive)
          c.loop-at.invariant.stay
          added;
      are_placed = ArePlaced-Adds c.loop-at.invariant.are_placed c.in_ok-keep.ensures.places;
      all = λ stays e.
          added
          ∙ ap (λ (xs : List PlacedProduction). xs ++ stays_so ∷ []) (c.loop-at.invariant.all stays e)
          ∙ sym more;
    }

pub returns : goal.returns
returns c =
    let productive = c.args.self.now.productive.found.items in
    let reached = map is_some c.args.self.now.numbers.items in
    let whole = c.args.whole.now in
    let prods = whole.parts.prods in
    let places = whole.production_places in
    let symbols = whole.symbol_places in
    let behind : length prods.items ≤ c.loop-at.at = omega (arith, prods.ok.0) in
    let many : length places.items ≡ length prods.items = omega (arith, c.requires.places, places.ok.0, prods.ok.0) in
    let many_symbols : length symbols.items ≡ length prods.items = omega (arith, c.requires.symbol_places, symbols.ok.0, prods.ok.0) in
    let with_all = with_places-all prods.items places.items symbols.items c.loop-at.at behind many many_symbols in
    let all = ap (map (new_placed c.args.self.now.numbers.items)) with_all in
    record {
      stay = c.loop-at.invariant.stay ∙ ap (λ (xs : List PlacedProduction). map (new_placed c.args.self.now.numbers.items) (filter (λ at. is_useful productive reached at.production) xs)) with_all;
      placed = c.loop-at.invariant.are_placed;
      all = λ stays e. c.loop-at.invariant.all stays e ∙ all;
    }
