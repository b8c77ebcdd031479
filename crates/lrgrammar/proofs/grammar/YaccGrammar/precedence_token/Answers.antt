use Rattle.std.proofs.Common.{◌≡◌, None, length, map, refl, ap, ◌∙◌, arith}
use Rattle.std.proofs.lemmas.List.{length-map}
use Rattle.lrspec.specs.grammars.Grammar.{named_token_of, named_or_last, last_token_or, body_of}
use Rattle.lrgrammar.specs.Symbols.{symbol_of}
use Rattle.lrgrammar.specs.StoredGrammar.{production_of}
use Rattle.lrgrammar.proofs.Turns.{place_within, element_at}
use Rattle.lrgrammar.proofs.grammar.YaccGrammar.precedence_token.Goals as goal

pub index-requires : goal.index-requires
index-requires g c =
    omega (arith, c.requires, ap (λ m. length m.productions) c.self.view_is, length-map c.self.inside.prods.items (production_of g.T.IndexStorage.number), c.to_usize.ensures.number, c.self.inside.prods.ok.0)

pub prod-requires : goal.prod-requires
prod-requires g c = c.requires

-- the token that the production names
pub returns-in-Some : goal.returns-in-Some
returns-in-Some g c =
    let number = g.T.IndexStorage.number in
    let prods = c.self.inside.prods.items in
    let same = ap (λ m. m.productions) c.self.view_is in
    let within = place_within (production_of number) prods c.args.self.now.productions c.to_usize.result (number c.args.pidx.0) same c.to_usize.ensures.number c.requires in
    let here = element_at (production_of number) prods c.to_usize.result (number c.args.pidx.0) c.index.result.now (production_of number c.index.result.now) c.args.self.now.productions within c.index.ensures c.to_usize.ensures.number refl same in
    rw (← here, c.in-Some.is) refl

-- the last token of the body
pub returns-in-None : goal.returns-in-None
returns-in-None g c =
    let number = g.T.IndexStorage.number in
    let prods = c.self.inside.prods.items in
    let m = c.args.self.now in
    let p = number c.args.pidx.0 in
    let same = ap (λ m. m.productions) c.self.view_is in
    let within = place_within (production_of number) prods m.productions c.to_usize.result p same c.to_usize.ensures.number c.requires in
    let here = element_at (production_of number) prods c.to_usize.result p c.index.result.now (production_of number c.index.result.now) m.productions within c.index.ensures c.to_usize.ensures.number refl same in
    let none : None ≡ named_token_of m p = rw (← here, c.in-None.is) refl in
    let body : map (symbol_of number) c.prod.result.now ≡ body_of m p = c.prod.ensures.body in
    c.last_token.ensures ∙ ap (last_token_or None) body ∙ ap (λ t. named_or_last t (body_of m p)) none
