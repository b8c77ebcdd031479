use Rattle.std.proofs.Common.{◌∙◌, ◌≡◌, ap, arith, sym, Option, Some, ℕ}
use Rattle.std.specs.Option.{option_or}
use Rattle.lryacc.specs.EndTokens.{written_number}
use Rattle.lryacc.specs.NamedSymbols.{text_at}
use Rattle.lryacc.proofs.EndsTaken.{takes_zero_end}
use Rattle.lryacc.proofs.NamesOfOne.{kept-again}
use Rattle.lryacc.proofs.meaning.Meaning.take_code.Goals as goal

pub returns-then-code-eq0-clause-end : goal.returns-then-code-eq0-clause-end
returns-then-code-eq0-clause-end c =
    let read = c.in_ok-code.ensures.keeps in
    let given = c.give_code.ensures in
    let value = rw c.in-Some-2.is at c.in_ok-code.ensures.value in
    let zero : written_number (text_at c.args.self.now.symbols.text.now c.args.number.span) ≡ 0 = sym value ∙ c.if-code-eq0.true in
    let found : c.or-self.result ≡ option_or c.args.self.now.end (Some c.in-Some.symbol) = c.or-self.ensures ∙ ap (λ (o : Option ℕ). option_or o (Some c.in-Some.symbol)) (given.end ∙ read.end) in
    takes_zero_end c.args.lexeme c.args.number c.in-Some.symbol c.args.self.now _ (kept-again read.symbols given.symbols) zero (sym c.find.ensures ∙ c.in-Some.is) found (omega (arith, read.faults, given.faults))
