use Rattle.std.proofs.Common.{◌≡◌, true, map, sym, ◌∙◌}
use Rattle.std.specs.List.{list_any}
use Rattle.lrgrammar.specs.Symbols.{symbol_of, number_of}
use Rattle.lrreasons.specs.Texts.{is_rule}
use Rattle.lrreasons.proofs.texts.push_input.Goals as goal

pub returns-in_default : goal.returns-in_default
returns-in_default c =
    let some : list_any is_rule (map (symbol_of number_of) c.args.list.now) ≡ true = sym c.has_rule.ensures ∙ c.if-not-has_rule.false in
    rw (some, c.in_default.is) c.push_line.ensures
