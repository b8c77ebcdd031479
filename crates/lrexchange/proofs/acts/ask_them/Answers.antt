-- where their stack is cut
use Rattle.std.proofs.Common.{◌≤◌, length, refl, arith}
use Rattle.std.proofs.lemmas.List.{length-map}
use Rattle.lrgrammar.specs.Symbols.{symbol_of, number_of}
use Rattle.lrdecided.proofs.CollectedInTurn.{kept, added}
use Rattle.lrexchange.specs.Exchanges.{at}
use Rattle.lrexchange.specs.StoredPositions.{symbols_of, turn_of, position_of, positions_of}
use Rattle.lrexchange.proofs.CutStacks.{them_asked, them_unasked, none_left}
use Rattle.lrexchange.proofs.acts.ask_them.Goals as goal

pub returns-in_default-clause-asked : goal.returns-in_default-clause-asked
returns-in_default-clause-asked c = λ t.
    let b = position_of c.args.deeper in
    let d = c.args.item.1.0 in
    let theirs = c.args.deeper.theirs in
    let deep : d ≤ length b.theirs = omega (arith, length-map theirs.items (symbol_of number_of), c.if-len-from.false, c.from.ensures, c.len.ensures, theirs.ok.0) in
    them_unasked c.args.grm.now (positions_of c.args.asked.now.items) c.args.item.0.0 d b (turn_of c.args.turn) deep
    (rw (none_left c.in_ok-theirs.field-0 c.in_default.not-Some) at c.in_ok-theirs.ensures)

pub returns-clause-kept : goal.returns-clause-kept
returns-clause-kept c = kept position_of _ _ _ c.in_ok-push.ensures.items

pub returns-clause-asked : goal.returns-clause-asked
returns-clause-asked c = λ t.
    let b = position_of c.args.deeper in
    let d = c.args.item.1.0 in
    let turn = turn_of c.args.turn in
    let theirs = c.args.deeper.theirs in
    let xs = symbols_of c.in-Some.theirs.items in
    let deep : d ≤ length b.theirs = omega (arith, length-map theirs.items (symbol_of number_of), c.if-len-from.false, c.from.ensures, c.len.ensures, theirs.ok.0) in
    them_asked c.args.grm.now (positions_of c.push.new.self.items) c.args.item.0.0 d b turn xs deep
    (rw c.in-Some.is at c.in_ok-theirs.ensures)
    (added position_of _ _ _ c.in_ok-push.ensures.items (at turn b.state xs b.ours) refl)
