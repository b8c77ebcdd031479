use Rattle.std.proofs.Common.{◌≡◌, true, map, get_or, refl, sym, ap, ◌∙◌}
use Rattle.std.proofs.lemmas.List.{get_or-map, get_or_default, length-map}
use Rattle.std.proofs.lemmas.List.Folds.{list_any_at}
use Rattle.lrgrammar.specs.Symbols.{symbol_of, number_of}
use Rattle.lrgrammar.specs.declared.idx.Symbol.TheVariants as stored
use Rattle.lrreasons.specs.Texts.{is_rule}
use Rattle.lrreasons.proofs.texts.has_rule.Goals as goal

pub returns-in-Rule : goal.returns-in-Rule
returns-in-Rule c =
    let f = symbol_of number_of in
    let xs = c.args.symbols.now in
    let i = c.loop-symbol.symbol-index in
    let l = c.loop-symbol-test.true in
    let none = stored.Rule (record { 0 = 0 }) in
    let x = get_or xs i none in
    let is : is_rule (f x) ≡ true = rw c.in-Rule.is refl in
    let at : get_or (map f xs) i (f x) ≡ f x = get_or-map f xs i x (f x) l ∙ ap f (get_or_default xs i x none l) in
    sym (list_any_at is_rule (map f xs) i (f x) (rw (length-map xs f) l) (rw at is))
