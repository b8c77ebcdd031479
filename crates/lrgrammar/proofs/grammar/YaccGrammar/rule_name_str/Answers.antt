use Rattle.std.proofs.Common.{ap}
use Rattle.std.specs.String.{string_bytes}
use Rattle.lrgrammar.proofs.Turns.{element_at, place_within}
use Rattle.lrgrammar.proofs.grammar.YaccGrammar.rule_name_str.Goals as goal

pub returns : goal.returns
returns g c =
    let names = c.self.inside.rule_names.items in
    let number = g.T.IndexStorage.number c.args.ridx.0 in
    let same = ap (λ m. m.rule_names) c.self.view_is in
    element_at string_bytes names c.to_usize.result number c.index.result.now c.as_str.result.now c.args.self.now.rule_names (place_within string_bytes names c.args.self.now.rule_names c.to_usize.result number same c.to_usize.ensures.number c.requires) c.index.ensures c.to_usize.ensures.number c.as_str.ensures.value same
