use Rattle.std.proofs.Common.{◌≡◌, ◌≤◌, length, map, sym, ap, ◌∙◌, subst, arith}
use Rattle.std.proofs.lemmas.Result.{IfOk-from_err}
use Rattle.std.specs.HashMap.{get_by_text}
use Rattle.std.specs.String.{string_bytes}
use Rattle.std.proofs.lemmas.List.{length-map}
use Rattle.lrspec.specs.grammars.Grammar.{IsGrammar}
use Rattle.lrspec.specs.texts.Parts.{HasDouble, grammar_of_parts}
use Rattle.lrspec.proofs.texts.GrammarOfParts.{grammar_from_parts, length-productions}
use Rattle.lrparts.specs.LookUps.{FindsNames}
use Rattle.lrgrammar.specs.GrammarSizes.{IsWithin}
use Rattle.lrtext.specs.StoredParts.{parts_of, part_production_of}
use Rattle.lrgrammar.specs.StoredGrammar.{production_of}
use Rattle.lrgrammar.proofs.GrammarOfParts.{small_from_no_cause, no_double_rule, no_double_token, sizes_from_no_cause, rules_within, same_grammar, room}
use Rattle.lrgrammar.proofs.Turns.{has_index, index_number}
use Rattle.lrgrammar.proofs.ProductionLists.{lists_along}
use Rattle.lrgrammar.proofs.grammar.make.grammar_from.Goals as goal

pub productions-requires : goal.productions-requires
productions-requires g c = small_from_no_cause g.T.IndexStorage.MAX c.args.parts.now c.requires

pub unwrap-requires : goal.unwrap-requires
unwrap-requires g c =
    let few : c.len.result ≤ g.T.IndexStorage.MAX = omega (arith, room g.T.IndexStorage.MAX c.args.parts.now c.requires, c.len.ensures, c.args.parts.now.prods.ok.0) in
    has_index _ g.T.IndexStorage.MAX c.len.result c.from_usize.result c.from_usize.ensures few

pub production_lists-requires-clause-few : goal.production_lists-requires-clause-few
production_lists-requires-clause-few g c =
    omega (arith, ap length c.deref.ensures.value, ap length c.in_ok-prods.ensures, length-map c.in_ok-prods.prods.items (production_of g.T.IndexStorage.number), length-productions (parts_of c.args.parts.now), length-map c.args.parts.now.prods.items part_production_of, room g.T.IndexStorage.MAX c.args.parts.now c.requires)

pub production_lists-requires-clause-within : goal.production_lists-requires-clause-within
production_lists-requires-clause-within g c =
    let ps = parts_of c.args.parts.now in
    rules_within (production_of g.T.IndexStorage.number) (grammar_of_parts ps) c.in_ok-prods.prods.items c.deref.result.now c.len-2.result (grammar_from_parts g.T.IndexStorage.MAX ps c.requires) c.in_ok-prods.ensures c.deref.ensures.value
    (omega (arith, ap length c.in_ok-rule_names.ensures, length-map c.in_ok-rule_names.rule_names.items string_bytes, c.in_ok-rule_names.rule_names.ok.0))

pub places-requires : goal.places-requires
places-requires g c = λ h.
    no_double_rule g.T.IndexStorage.MAX (parts_of c.args.parts.now) c.requires (subst HasDouble (ap (map string_bytes) c.deref-2.ensures.value ∙ c.in_ok-rule_names.ensures) h)

pub places-requires-2 : goal.places-requires-2
places-requires-2 g c = λ h.
    no_double_token g.T.IndexStorage.MAX (parts_of c.args.parts.now) c.requires (subst HasDouble (ap (map string_bytes) c.deref-3.ensures.value ∙ c.in_ok-token_names.ensures) h)

pub invariant_of-result : goal.invariant_of-result
invariant_of-result g c =
    let ps = parts_of c.args.parts.now in
    let numbered : g.T.IndexStorage.number c.unwrap.result ≡ c.len.result = index_number g.T.IndexStorage.number g.T.IndexStorage.MAX c.len.result c.from_usize.result c.unwrap.result c.unwrap.ensures c.from_usize.ensures in
    let same = same_grammar (grammar_of_parts ps) _ _ _ _ (g.T.IndexStorage.number c.unwrap.result) c.in_ok-rule_names.ensures c.in_ok-token_names.ensures c.in_ok-token_precedences.ensures c.in_ok-prods.ensures
    (omega (arith, numbered, length-map c.args.parts.now.prods.items part_production_of, c.args.parts.now.prods.ok.0)) in
    record {
      shape = subst IsGrammar (sym same) (grammar_from_parts g.T.IndexStorage.MAX ps c.requires);
      sizes = subst (IsWithin g.T.IndexStorage.MAX) (sym same) (sizes_from_no_cause g.T.IndexStorage.MAX ps (omega (arith, g.met.T.IndexStorage.least)) c.requires);
      lists = lists_along g.T.IndexStorage.number (production_of g.T.IndexStorage.number) c.in_ok-prods.prods.items c.deref.result.now c.len-2.result (length c.in_ok-rule_names.rule_names.items) c.in_ok-rule_prods.rule_prods.items c.deref.ensures.value (c.len-2.ensures ∙ c.in_ok-rule_names.rule_names.ok.0) c.in_ok-rule_prods.ensures;
      rules = subst (λ xs. FindsNames (get_by_text c.in_ok-rule_places.rule_places) (map string_bytes xs) (length xs)) c.deref-2.ensures.value c.in_ok-rule_places.ensures;
      tokens = subst (λ xs. FindsNames (get_by_text c.in_ok-token_places.token_places) (map string_bytes xs) (length xs)) c.deref-3.ensures.value c.in_ok-token_places.ensures;
    }

pub returns : goal.returns
returns g c =
    let numbered : g.T.IndexStorage.number c.unwrap.result ≡ c.len.result = index_number g.T.IndexStorage.number g.T.IndexStorage.MAX c.len.result c.from_usize.result c.unwrap.result c.unwrap.ensures c.from_usize.ensures in
    same_grammar (grammar_of_parts (parts_of c.args.parts.now)) _ _ _ _ (g.T.IndexStorage.number c.unwrap.result) c.in_ok-rule_names.ensures c.in_ok-token_names.ensures c.in_ok-token_precedences.ensures c.in_ok-prods.ensures
    (omega (arith, numbered, length-map c.args.parts.now.prods.items part_production_of, c.args.parts.now.prods.ok.0))

pub returns-in_err-rule_names : goal.returns-in_err-rule_names
returns-in_err-rule_names g c = IfOk-from_err c.from_residual.result _ c.from_residual.ensures.0

pub returns-in_err-token_names : goal.returns-in_err-token_names
returns-in_err-token_names g c = IfOk-from_err c.from_residual-in_err-token_names.result _ c.from_residual-in_err-token_names.ensures.0

pub returns-in_err-token_precedences : goal.returns-in_err-token_precedences
returns-in_err-token_precedences g c = IfOk-from_err c.from_residual-in_err-token_precedences.result _ c.from_residual-in_err-token_precedences.ensures.0

pub returns-in_err-prods : goal.returns-in_err-prods
returns-in_err-prods g c = IfOk-from_err c.from_residual-in_err-prods.result _ c.from_residual-in_err-prods.ensures.0

pub returns-in_err-rule_prods : goal.returns-in_err-rule_prods
returns-in_err-rule_prods g c = IfOk-from_err c.from_residual-in_err-rule_prods.result _ c.from_residual-in_err-rule_prods.ensures.0

pub returns-in_err-rule_places : goal.returns-in_err-rule_places
returns-in_err-rule_places g c = IfOk-from_err c.from_residual-in_err-rule_places.result _ c.from_residual-in_err-rule_places.ensures.0

pub returns-in_err-token_places : goal.returns-in_err-token_places
returns-in_err-token_places g c = IfOk-from_err c.from_residual-in_err-token_places.result _ c.from_residual-in_err-token_places.ensures.0
