use Rattle.std.proofs.Common.{◌≡◌, ◌∙◌, ◌++◌, ◌∷◌, [], ap, sym, length, map, slice_get, string_bytes, List, Some}
use Rattle.std.specs.declared.alloc.Global.{Global}
use Rattle.std.specs.declared.string.String.{String}
use Rattle.lryacc.specs.declared.places.Span.{Span}
use Rattle.lryacc.proofs.Numbered.{levelled-none, numbered-none}
use Rattle.lryacc.proofs.numbering.Numbering.new.Goals as goal

pub returns-clause-numbered : goal.returns-clause-numbered
returns-clause-numbered c =
    let name = λ (text : String Global). string_bytes text in
    let start = λ (span : Span). span.start in
    let accept = c.in_ok-accept.accept in
    let rules : c.add_rule.new.self.parts.rules.items ≡ accept ∷ [] =
    c.in_ok-add_rule.ensures.rules ∙ ap (λ (names : List (String Global)). names ++ accept ∷ []) c.empty-grammar.ensures.rules in
    let places : c.add_rule.new.self.rule_places.items ≡ c.nowhere.result ∷ [] =
    c.in_ok-add_rule.ensures.places ∙ ap (λ (spans : List Span). spans ++ c.nowhere.result ∷ []) c.empty-grammar.ensures.places in
    let many = ap (λ (spans : List Span). length (map start spans)) places ∙ sym (ap (λ (names : List (String Global)). length (map name names)) rules) in
    let first = ap (λ (names : List (String Global)). slice_get (map name names) 0) rules ∙ ap Some c.in_ok-accept.ensures.ok in
    numbered-none _ c.new.result c.new-2.result c.new-4.result c.new.ensures.empty c.new-2.ensures.empty c.new-4.ensures.empty many first

pub returns-clause-levelled : goal.returns-clause-levelled
returns-clause-levelled c = levelled-none _ c.new-3.result c.new-3.ensures.empty
