use Rattle.std.proofs.Common.{[], map, ap, sym, ◌∙◌}
use Rattle.std.specs.String.{string_bytes}
use Rattle.lrspec.specs.texts.PrintedTexts.{symbol_name}
use Rattle.lrgrammar.specs.Symbols.{symbol_of}
use Rattle.lrgrammar.proofs.Turns.{read_or, none_or}
use Rattle.lrgrammar.proofs.grammar.YaccGrammar.symbol_name_str.Goals as goal
use Rattle.lrgrammar.proofs.grammar.YaccGrammar.symbol_name_str.Goals.{in-Rule, in-Token}

pub returns-in-Some : goal.returns-in-Some
returns-in-Some g c =
    let number = g.T.IndexStorage.number in
    let m = c.args.self.now in
    let text = c.as_str.result.now in
    elim c.match-symbol.branch [
      | in-Rule w ↦ read_or string_bytes w.deref.result.now w.to_usize.result (number w.in-Rule.ridx.0) w.get-name.result c.in-Some.name text [] m.rule_names w.get-name.ensures.lookup.3 (sym w.name-is ∙ c.in-Some.is) w.to_usize.ensures.number c.as_str.ensures.value (ap (map string_bytes) w.deref.ensures.value ∙ ap (λ k. k.rule_names) c.self.view_is) ∙ sym (ap (λ s. symbol_name m (symbol_of number s)) w.in-Rule.is)
      | in-Token w ↦ read_or string_bytes w.deref-in-Token.result.now w.to_usize-in-Token.result (number w.in-Token.tidx.0) w.get-name-in-Token.result c.in-Some.name text [] m.token_names w.get-name-in-Token.ensures.lookup.3 (sym w.name-is ∙ c.in-Some.is) w.to_usize-in-Token.ensures.number c.as_str.ensures.value (ap (map string_bytes) w.deref-in-Token.ensures.value ∙ ap (λ k. k.token_names) c.self.view_is) ∙ sym (ap (λ s. symbol_name m (symbol_of number s)) w.in-Token.is)
    ]

pub returns-in-None : goal.returns-in-None
returns-in-None g c =
    let number = g.T.IndexStorage.number in
    let m = c.args.self.now in
    elim c.match-symbol.branch [
      | in-Rule w ↦ none_or string_bytes w.deref.result.now w.to_usize.result (number w.in-Rule.ridx.0) w.get-name.result [] m.rule_names w.get-name.ensures.lookup.3 (sym w.name-is ∙ c.in-None.is) w.to_usize.ensures.number (ap (map string_bytes) w.deref.ensures.value ∙ ap (λ k. k.rule_names) c.self.view_is) ∙ sym (ap (λ s. symbol_name m (symbol_of number s)) w.in-Rule.is)
      | in-Token w ↦ none_or string_bytes w.deref-in-Token.result.now w.to_usize-in-Token.result (number w.in-Token.tidx.0) w.get-name-in-Token.result [] m.token_names w.get-name-in-Token.ensures.lookup.3 (sym w.name-is ∙ c.in-None.is) w.to_usize-in-Token.ensures.number (ap (map string_bytes) w.deref-in-Token.ensures.value ∙ ap (λ k. k.token_names) c.self.view_is) ∙ sym (ap (λ s. symbol_name m (symbol_of number s)) w.in-Token.is)
    ]
