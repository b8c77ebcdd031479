use Rattle.std.proofs.Common.{length, map, refl, ap, arith}
use Rattle.std.proofs.lemmas.List.{length-map}
use Rattle.lrgrammar.specs.Symbols.{symbol_of}
use Rattle.lrgrammar.specs.StoredGrammar.{production_of}
use Rattle.lrgrammar.proofs.Turns.{place_within}
use Rattle.lrgrammar.proofs.ProductionLists.{body_at}
use Rattle.lrgrammar.proofs.grammar.YaccGrammar.prod.Goals as goal

pub index-requires : goal.index-requires
index-requires g c =
    omega (arith, c.requires, ap (λ m. length m.productions) c.self.view_is, length-map c.self.inside.prods.items (production_of g.T.IndexStorage.number), c.to_usize.ensures.number, c.self.inside.prods.ok.0)

pub returns-clause-body : goal.returns-clause-body
returns-clause-body g c =
    let number = g.T.IndexStorage.number in
    let prods = c.self.inside.prods.items in
    let same = ap (λ m. m.productions) c.self.view_is in
    let within = place_within (production_of number) prods c.args.self.now.productions c.to_usize.result (number c.args.pidx.0) same c.to_usize.ensures.number c.requires in
    body_at (production_of number) c.args.self.now prods c.to_usize.result (number c.args.pidx.0) c.index.result.now (map (symbol_of number) c.as_slice.result.now) (map (symbol_of number) c.index.result.now.body.items) within c.index.ensures c.to_usize.ensures.number same (ap (map (symbol_of number)) c.as_slice.ensures.value) refl
