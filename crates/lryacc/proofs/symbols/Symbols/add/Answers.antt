use Rattle.std.proofs.Common.{◌≡◌, ℕ, ap, refl, subst, length, arith}
use Rattle.std.proofs.lemmas.List.{length_push}
use Rattle.lryacc.specs.declared.symbols.Symbols.{Symbols}
use Rattle.lryacc.specs.NamedSymbols.{AddsName}
use Rattle.lryacc.proofs.NamesOfOne.{item-numbers, new-names, ok-then}
use Rattle.lryacc.proofs.symbols.Symbols.add.Goals as goal

pub returns : goal.returns
returns c =
    let old = c.args.self.now in
    let now : Symbols = record old { list = c.push.new.self } in
    let new = c.add_name.new.self in
    let same : c.len-number.result ≡ length old.list.items = omega (arith, c.len-number.ensures, old.list.ok.0) in
    ok-then c.add_name.result
    (λ adds. new-names old now new c.args.lexeme record {
      keeps = record {
        names = record { text = refl; dialect = refl; words = refl; characters = refl };
        partners = refl;
      };
      more = omega (arith, ap length c.in_ok-push.ensures.items, length_push old.list.items c.new.result);
      adds = subst (λ (n : ℕ). AddsName now new c.args.lexeme n) same adds;
    })
    c.add_name.ensures

pub returns-then-lexeme-symbol : goal.returns-then-lexeme-symbol
returns-then-lexeme-symbol c = item-numbers c.args.self.now c.in-Some.number _

pub returns-else-lexeme-symbol : goal.returns-else-lexeme-symbol
returns-else-lexeme-symbol c = item-numbers c.args.self.now c.in-Some.number _
