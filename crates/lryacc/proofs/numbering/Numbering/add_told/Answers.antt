use Rattle.std.proofs.Common.{◌∙◌, Some, ap, inl, string_bytes, subst, sym}
use Rattle.lryacc.specs.declared.meaning.Meaning.{Meaning}
use Rattle.lryacc.specs.Levels.{line_of, precedence_of}
use Rattle.lryacc.specs.NamedSymbols.{IsTokenOf, IsTokenText, name_of, symbol_number}
use Rattle.lryacc.specs.Numbered.{names_of}
use Rattle.lryacc.proofs.NamesOfOne.{ok-then}
use Rattle.lryacc.proofs.Numbered.{gives-next}
use Rattle.lryacc.proofs.numbering.Numbering.add_told.Goals as goal

pub returns : goal.returns
returns c =
    let added = c.in_ok-token.ensures.added in
    let old = c.args.self.now in
    let now = c.add_token.new.self in
    let token = c.in_ok-token.token in
    let number = c.in-Some.number in
    let is : IsTokenOf (names_of now) number token =
    inl record {
      name = c.args.told;
      same = ap (λ (m : Meaning). symbol_number m.symbols c.args.told) added.meaning ∙ sym c.find.ensures ∙ c.in-Some.is;
      text = string_bytes c.in_ok-name.name;
      here = c.in_ok-token.ensures.number;
      is =
          subst (λ (m : Meaning). IsTokenText m.symbols.dialect c.args.told.kind (name_of m.symbols.text.now m.symbols.dialect c.args.told) (string_bytes c.in_ok-name.name))
          (sym added.meaning) c.in_ok-name.ensures;
      precedence =
          c.in_ok-token.ensures.precedence ∙ ap Some c.precedence-precedence.ensures
          ∙ ap (λ (m : Meaning). Some (precedence_of m.levels.items (line_of m number))) (sym added.meaning);
    } in
    ok-then c.give_token.result (gives-next old now c.give_token.new.self number token added c.in_ok-token.ensures.same_tokens c.in_ok-token.ensures.last is) c.give_token.ensures
