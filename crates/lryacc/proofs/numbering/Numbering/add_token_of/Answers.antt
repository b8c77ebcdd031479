use Rattle.std.proofs.Common.{◌∙◌, ap, inr, sym, Some}
use Rattle.std.specs.Option.{option_map}
use Rattle.lryacc.specs.declared.meaning.Meaning.{Meaning}
use Rattle.lryacc.specs.Levels.{line_of, precedence_of}
use Rattle.lryacc.specs.NamedSymbols.{IsTokenOf, first_name}
use Rattle.lryacc.specs.Numbered.{names_of}
use Rattle.lryacc.proofs.NamesOfOne.{ok-then}
use Rattle.lryacc.proofs.Numbered.{gives-next}
use Rattle.lryacc.proofs.numbering.Numbering.add_token_of.Goals as goal

pub returns-then-is_end_by_name : goal.returns-then-is_end_by_name
returns-then-is_end_by_name c =
    let added = c.in_ok-token.ensures.added in
    let old = c.args.self.now in
    let now = c.add_token.new.self in
    let token = c.in_ok-token.token in
    let end = c.is_end_by_name.ensures c.if-is_end_by_name.true (sym c.known.ensures ∙ c.in-Some.is) in
    let is : IsTokenOf (names_of now) c.args.number token =
    inr record {
      end = ap (λ (m : Meaning). option_map (first_name m.symbols) m.end) added.meaning ∙ end;
      is = c.in_ok-token.ensures.number ∙ ap Some c.in_ok-name.ensures.ok;
      precedence =
          c.in_ok-token.ensures.precedence ∙ ap Some c.precedence.ensures
          ∙ ap (λ (m : Meaning). Some (precedence_of m.levels.items (line_of m c.args.number))) (sym added.meaning);
    } in
    ok-then c.give_token.result (gives-next old now c.give_token.new.self c.args.number token added c.in_ok-token.ensures.same_tokens c.in_ok-token.ensures.last is) c.give_token.ensures
