use Rattle.std.proofs.Common.{map, ap, ◌∙◌}
use Rattle.std.specs.String.{string_bytes}
use Rattle.lrgrammar.proofs.Turns.{element_at, none_at}
use Rattle.lrgrammar.proofs.grammar.YaccGrammar.token_name.Goals as goal

pub returns-in-Some : goal.returns-in-Some
returns-in-Some g c =
    let found = c.in-Some.ensures.lookup in
    element_at string_bytes c.deref.result.now c.to_usize.result (g.T.IndexStorage.number c.args.tidx.0) c.in-Some.name.now c.as_str.result.now c.args.self.now.token_names found.3.0 found.1 c.to_usize.ensures.number c.as_str.ensures.value (ap (map string_bytes) c.deref.ensures.value ∙ ap (λ m. m.token_names) c.self.view_is)

pub returns-in-None : goal.returns-in-None
returns-in-None g c =
    none_at string_bytes c.deref.result.now c.to_usize.result (g.T.IndexStorage.number c.args.tidx.0) c.args.self.now.token_names c.in-None.ensures.lookup.3 c.to_usize.ensures.number (ap (map string_bytes) c.deref.ensures.value ∙ ap (λ m. m.token_names) c.self.view_is)
