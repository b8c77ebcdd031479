use Rattle.std.proofs.Common.{◌<◌, length, get_or, refl, arith}
use Rattle.std.specs.Prelude.{IsTrue, false}
use Rattle.lrgrammar.specs.Symbols.{symbol_of}
use Rattle.lritems.specs.Gotos.{items_in, gotos_of}
use Rattle.lritems.proofs.GotoPlaces.{at_noted, below_of_at, goto_read, symbol_at}
use Rattle.lritems.proofs.gotos.known_place.Goals.{else-place-gotos-via-then-place-gotos+else-is_same_symbol, else-place-gotos-via-else-place-gotos}
use Rattle.lritems.proofs.gotos.known_place.Goals as goal

pub returns-then-is_same_symbol : goal.returns-then-is_same_symbol
returns-then-is_same_symbol g c =
    let number = g.T.IndexStorage.number in
    let gs = c.args.gotos.now in
    let k = c.at-place.result in
    let e = c.index-gotos-place.result in
    (items_in number (get_or gs k e).1, rw (← c.if-is_same_symbol.ensures.0 refl) (goto_read number gs k e c.if-place-gotos.true))

pub returns-else-place-gotos : goal.returns-else-place-gotos
returns-else-place-gotos g c = λ on.
    let number = g.T.IndexStorage.number in
    let gs = c.args.gotos.now in
    let k = c.at-place.result in
    let x = symbol_of number c.args.symbol in
    let at = at_noted (gotos_of number gs) c.args.places.now x k c.requires.places c.at-place.ensures on in
    elim c.else-place-gotos.branch [
      | else-place-gotos-via-then-place-gotos+else-is_same_symbol w ↦
          let e = get_or gs k w.index-gotos-place.result in
          let here = goto_read number gs k w.index-gotos-place.result w.if-place-gotos.true in
          let n : IsTrue false = w.if-is_same_symbol.ensures.1 (symbol_at (gotos_of number gs) k x (symbol_of number e.0) (items_in number e.1) at here) in
          cc
      | else-place-gotos-via-else-place-gotos w ↦
          let below : k < length gs = below_of_at number gs k x at in
          omega (arith, w.if-place-gotos.false)
    ]
