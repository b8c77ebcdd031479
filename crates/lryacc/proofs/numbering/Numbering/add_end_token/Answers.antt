use Rattle.std.proofs.Common.{◌≡◌, ◌∙◌, Some, ap, string_bytes, sym}
use Rattle.std.specs.BTreeMap.{get}
use Rattle.std.specs.Option.{option_map}
use Rattle.std.specs.Ordering.{nat_cmp}
use Rattle.lryacc.specs.NamedSymbols.{first_name}
use Rattle.lryacc.proofs.Numbered.{end-first-given, end-first-unnamed}
use Rattle.lryacc.proofs.numbering.Numbering.add_end_token.Goals as goal

pub returns-in_default-clause-end : goal.returns-in_default-clause-end
returns-in_default-clause-end c =
    let added = c.in_ok-add_token.ensures in
    end-first-unnamed c.args.self.now c.add_token.new.self c.in_ok-add_token.field-0 (string_bytes c.in_ok-name.name) added.added c.requires c.in_default.is added.same_tokens added.last added.number c.in_ok-name.ensures.ok added.precedence

pub returns-in-Some-eq0-clause-end : goal.returns-in-Some-eq0-clause-end
returns-in-Some-eq0-clause-end c =
    let symbols = c.args.self.now.meaning.now.symbols in
    let number = c.canonical-number.result in
    let first : get nat_cmp c.add_token_of.new.self.tokens number ≡ Some 0 = sym c.in-Some-eq0.ensures.value ∙ ap Some c.in-Some-eq0.field-0-test in
    end-first-given c.args.self.now c.add_token_of.new.self number c.in_ok-add_token_of.ensures
    (ap (option_map (first_name symbols)) c.in-Some.is ∙ ap Some (sym c.canonical-number.ensures)) first
