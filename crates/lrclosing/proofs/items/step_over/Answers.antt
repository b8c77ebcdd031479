use Rattle.std.proofs.Common.{◌≡◌, ◌+◌, length, map, sym, ap, arith}
use Rattle.std.proofs.lemmas.List.{length-map}
use Rattle.lrspec.specs.grammars.Grammar.{body_of}
use Rattle.lrgrammar.specs.Symbols.{symbol_of}
use Rattle.lrclosing.proofs.SymbolsBehindDots.{behind_dot, number_fits, past_body}
use Rattle.lrclosing.proofs.items.step_over.Goals as goal

pub returns-then-at-body-clause-found : goal.returns-then-at-body-clause-found
returns-then-at-body-clause-found g c =
    behind_dot (symbol_of g.T.IndexStorage.number) c.prod-body.result.now _ _ c.index-body-at.result c.index-body-at.result _ c.if-at-body.true c.prod-body.ensures.body c.from-at.ensures
    (sym c.index-body-at.is)

pub prod-body-requires : goal.prod-body-requires
prod-body-requires g c = c.requires

pub returns-then-at-body-clause-moved : goal.returns-then-at-body-clause-moved
returns-then-at-body-clause-moved g c = let e = (rw c.unwrap.ensures at c.from_usize.ensures).1 in omega (arith, e, c.from-at.ensures)

pub returns-else-at-body-clause-none : goal.returns-else-at-body-clause-none
returns-else-at-body-clause-none g c =
    past_body (symbol_of g.T.IndexStorage.number) c.prod-body.result.now _ _ _ c.if-at-body.false c.prod-body.ensures.body c.from-at.ensures

pub unwrap-requires : goal.unwrap-requires
unwrap-requires g c =
    let number = g.T.IndexStorage.number in
    let long : length (map (symbol_of number) c.prod-body.result.now) ≡ length (body_of c.args.grm.now (number c.args.pidx.0)) = ap length c.prod-body.ensures.body in
    number_fits _ _ g.T.IndexStorage.MAX (c.from-at.result + 1) c.from_usize.ensures
    (omega (arith, c.if-at-body.true, length-map c.prod-body.result.now (symbol_of number), long, c.prod-body.ensures.sizes.bodies (number c.args.pidx.0)))
