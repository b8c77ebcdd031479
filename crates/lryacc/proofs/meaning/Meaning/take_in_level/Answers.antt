use Rattle.std.proofs.Common.{◌≡◌, ◌∙◌, ap, is_some, sym, true}
use Rattle.std.specs.BTreeMap.{get}
use Rattle.std.specs.Ordering.{nat_cmp}
use Rattle.lryacc.proofs.EndsTaken.{lines-again}
use Rattle.lryacc.proofs.LinesHeld.{puts_some}
use Rattle.lryacc.proofs.NamesOfOne.{names-turned, number-kept, ok-then}
use Rattle.lryacc.proofs.meaning.Meaning.take_in_level.Goals as goal

pub returns-in-Some-line-clause-puts : goal.returns-in-Some-line-clause-puts
returns-in-Some-line-clause-puts c =
    let old = c.args.self.now in
    let now = c.take_class.new.self in
    let class = c.in_ok-take_class.ensures in
    let number = c.in-Some.number in
    let named = number-kept now.symbols old.symbols (names-turned class.symbols.names) c.args.lexeme number (sym c.find.ensures ∙ c.in-Some.is) in
    let there : is_some (get nat_cmp old.lines number) ≡ true =
    ap (λ lines. is_some (get nat_cmp lines number)) (sym class.lines.lines) ∙ ap is_some (sym c.line.ensures ∙ c.in-Some-line.is) in
    ok-then c.tell.result (λ told. puts_some c.args.lexeme old c.tell.new.self number (lines-again class.lines told.lines) named there) c.tell.ensures.keeps
