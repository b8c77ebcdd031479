use Rattle.std.proofs.Common.{length, ap, ◌∙◌, arith}
use Rattle.std.proofs.lemmas.List.{length-map}
use Rattle.std.specs.String.{string_bytes}
use Rattle.lrgrammar.proofs.Turns.{has_index, index_number}
use Rattle.lrgrammar.proofs.grammar.YaccGrammar.rules_len.Goals as goal

pub unwrap-requires : goal.unwrap-requires
unwrap-requires g c =
    has_index _ g.T.IndexStorage.MAX _ c.from_usize.result c.from_usize.ensures (omega (arith, c.len.ensures, c.self.inside.rule_names.ok.0, length-map c.self.inside.rule_names.items string_bytes, c.self.invariant.sizes.rules))

pub returns-clause-value : goal.returns-clause-value
returns-clause-value g c =
    index_number g.T.IndexStorage.number g.T.IndexStorage.MAX _ c.from_usize.result c.unwrap.result c.unwrap.ensures c.from_usize.ensures ∙ omega (arith, c.len.ensures, c.self.inside.rule_names.ok.0, length-map c.self.inside.rule_names.items string_bytes, ap (λ m. length m.rule_names) c.self.view_is)
