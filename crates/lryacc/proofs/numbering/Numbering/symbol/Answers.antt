use Rattle.std.proofs.Common.{◌≡◌, ◌∙◌, Some, sym}
use Rattle.std.specs.BTreeMap.{get}
use Rattle.std.specs.Ordering.{nat_cmp}
use Rattle.lryacc.specs.NamedSymbols.{symbol_number}
use Rattle.lryacc.proofs.Numbered.{rule_symbol}
use Rattle.lryacc.proofs.numbering.Numbering.symbol.Goals as goal

pub returns-in-Some-default : goal.returns-in-Some-default
returns-in-Some-default c =
    let named : symbol_number c.args.self.now.meaning.now.symbols c.args.lexeme ≡ Some c.in_ok-number.number = sym c.find.ensures ∙ c.in_ok-number.was in
    let there : get nat_cmp c.args.self.now.rules c.in_ok-number.number ≡ Some c.in-Some-default.rule.now = sym c.in-Some-default.ensures.value in
    λ h. record {
      number = c.in_ok-number.number;
      names_it = named;
      is_it = rule_symbol (get nat_cmp c.args.self.now.rules) (get nat_cmp c.args.self.now.tokens) c.in_ok-number.number c.in-Some-default.rule.now there;
      is = h.of_rules c.in_ok-number.number c.in-Some-default.rule.now there;
    }
