use Rattle.std.proofs.Common.{Option, map, refl, ap, ◌∙◌}
use Rattle.std.specs.Prelude.{option_and_then}
use Rattle.std.specs.Option.{option_map}
use Rattle.lrspec.specs.grammars.Grammar as math
use Rattle.lrtext.specs.StoredParts.{precedence_of}
use Rattle.lrgrammar.proofs.Turns.{element_at, none_at}
use Rattle.lrgrammar.proofs.grammar.YaccGrammar.precedence_at.Goals as goal

pub returns-in-Some : goal.returns-in-Some
returns-in-Some g c =
    let found = c.in-Some.ensures.lookup in
    let view = option_map precedence_of in
    ap (option_and_then (λ (o : Option math.Precedence). o)) (element_at view c.deref.result.now c.args.place c.args.place c.in-Some.precedence.now (view c.in-Some.precedence.now) c.args.self.now.token_precedences found.3.0 found.1 refl refl (ap (map view) c.deref.ensures.value ∙ ap (λ m. m.token_precedences) c.self.view_is))

pub returns-in-None : goal.returns-in-None
returns-in-None g c =
    let view = option_map precedence_of in
    ap (option_and_then (λ (o : Option math.Precedence). o)) (none_at view c.deref.result.now c.args.place c.args.place c.args.self.now.token_precedences c.in-None.ensures.lookup.3 refl (ap (map view) c.deref.ensures.value ∙ ap (λ m. m.token_precedences) c.self.view_is))
