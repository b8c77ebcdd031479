-- where both stacks are cut
use Rattle.std.proofs.Common.{◌≤◌, length, refl, arith}
use Rattle.std.proofs.lemmas.List.{length-map}
use Rattle.lrgrammar.specs.Symbols.{symbol_of, number_of}
use Rattle.lrdecided.proofs.CollectedInTurn.{kept, added}
use Rattle.lrexchange.specs.Exchanges.{at}
use Rattle.lrexchange.specs.Positions.{Even}
use Rattle.lrexchange.specs.StoredPositions.{symbols_of, ours_of, position_of, positions_of}
use Rattle.lrexchange.proofs.CutStacks.{both_asked, both_unasked, none_left}
use Rattle.lrexchange.proofs.acts.ask_both.Goals as goal

pub returns-in_default-clause-asked : goal.returns-in_default-clause-asked
returns-in_default-clause-asked c = λ t.
    let b = position_of c.args.deeper in
    let d = c.args.item.1.0 in
    let theirs = c.args.deeper.theirs in
    let deep : d ≤ length b.theirs = omega (arith, length-map theirs.items (symbol_of number_of), c.if-len-from.false, c.from.ensures, c.len.ensures, theirs.ok.0) in
    both_unasked c.args.grm.now (positions_of c.args.asked.now.items) c.args.item.0.0 d b deep
    (rw (none_left c.in_ok-theirs.field-0 c.in_default.not-Some) at c.in_ok-theirs.ensures)

pub returns-clause-kept : goal.returns-clause-kept
returns-clause-kept c = kept position_of _ _ _ c.in_ok-push.ensures.items

pub returns-clause-asked : goal.returns-clause-asked
returns-clause-asked c = λ t.
    let b = position_of c.args.deeper in
    let d = c.args.item.1.0 in
    let theirs = c.args.deeper.theirs in
    let xs = symbols_of c.in-Some.theirs.items in
    let y = ours_of c.in-Some-2.ours in
    let deep : d ≤ length b.theirs = omega (arith, length-map theirs.items (symbol_of number_of), c.if-len-from.false, c.from.ensures, c.len.ensures, theirs.ok.0) in
    both_asked c.args.grm.now (positions_of c.push.new.self.items) c.args.item.0.0 d b xs y deep
    (rw c.in-Some.is at c.in_ok-theirs.ensures) (rw c.in-Some-2.is at c.in_ok-ours.ensures)
    (added position_of _ _ _ c.in_ok-push.ensures.items (at Even b.state xs y) refl)
