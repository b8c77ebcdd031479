use Rattle.std.proofs.Common.{◌<◌, length, map, ap, ◌∙◌, arith}
use Rattle.std.specs.String.{string_bytes}
use Rattle.std.proofs.lemmas.List.{length-map}
use Rattle.lrspec.specs.grammars.Grammar as math
use Rattle.lrgrammar.specs.StoredGrammar.{production_of, numbers_of}
use Rattle.lrgrammar.proofs.Turns.{place_within}
use Rattle.lrgrammar.proofs.grammar.YaccGrammar.rule_to_prods.Goals as goal

pub index-requires : goal.index-requires
index-requires g c =
    omega (arith, c.requires, ap (λ m. length m.rule_names) c.self.view_is, length-map c.self.inside.rule_names.items string_bytes, c.self.invariant.lists.count, c.to_usize.ensures.number, c.self.inside.rule_prods.ok.0)

pub returns-clause-prods : goal.returns-clause-prods
returns-clause-prods g c =
    let number = g.T.IndexStorage.number in
    let names = c.self.inside.rule_names.items in
    let prods = map (production_of number) c.self.inside.prods.items in
    let rule = c.to_usize.result in
    let within : rule < length names = place_within string_bytes names c.args.self.now.rule_names rule (number c.args.ridx.0) (ap (λ m. m.rule_names) c.self.view_is) c.to_usize.ensures.number c.requires in
    ap (numbers_of number) (c.as_slice.ensures.value ∙ ap (λ v. v.items) c.index.ensures) ∙ c.self.invariant.lists.each rule c.index.result.now within ∙ ap (math.places_of_rule prods) c.to_usize.ensures.number ∙ ap (λ m. math.productions_of m (number c.args.ridx.0)) c.self.view_is
