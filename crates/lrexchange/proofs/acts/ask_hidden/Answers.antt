-- where their stack is cut to one symbol
use Rattle.std.proofs.Common.{◌≡◌, ◌≤◌, List, [], ◌∷◌, length, Option, Some, refl, ap, subst, arith}
use Rattle.std.proofs.lemmas.List.{length-map}
use Rattle.lrspec.specs.grammars.Grammar as math
use Rattle.lrgrammar.specs.Symbols.{symbol_of, number_of}
use Rattle.lrdecided.proofs.CollectedInTurn.{kept, added}
use Rattle.lrexchange.specs.Exchanges.{at}
use Rattle.lrexchange.specs.Positions.{Mark, IsCut}
use Rattle.lrexchange.specs.StoredPositions.{symbols_of, mark_of, position_of, positions_of}
use Rattle.lrexchange.proofs.AskedPositions.{one_alone}
use Rattle.lrexchange.proofs.CutStacks.{hidden_asked, hidden_unasked, none_left}
use Rattle.lrexchange.proofs.SamePositions.{same_position, the_ours, same_ours}
use Rattle.lrexchange.proofs.acts.ask_hidden.Goals as goal

pub returns-in_default-clause-asked : goal.returns-in_default-clause-asked
returns-in_default-clause-asked c = λ t.
    let b = position_of c.args.deeper in
    let d = c.prod_len.result.0 in
    let theirs = c.args.deeper.theirs in
    let deep : d ≤ length b.theirs = omega (arith, length-map theirs.items (symbol_of number_of), c.if-len-from.false, c.from-3.ensures, c.len.ensures, theirs.ok.0) in
    hidden_unasked c.args.grm.now (positions_of c.args.asked.now.items) c.args.production.0 d b (mark_of c.args.mark)
    (symbols_of c.args.ours.now) c.prod_len.ensures deep
    (rw (none_left c.in_ok-theirs.field-0 c.in_default.not-Some) at c.in_ok-theirs.ensures)

pub returns-clause-kept : goal.returns-clause-kept
returns-clause-kept c = kept position_of _ _ _ c.in_ok-push.ensures.items

pub returns-clause-asked : goal.returns-clause-asked
returns-clause-asked c = λ t.
    let grm = c.args.grm.now in
    let p = c.args.production.0 in
    let b = position_of c.args.deeper in
    let d = c.prod_len.result.0 in
    let m = mark_of c.args.mark in
    let y = symbols_of c.args.ours.now in
    let theirs = c.args.deeper.theirs in
    let xs = c.in-Some.theirs.items in
    let x = symbol_of number_of c.index.result.now in
    let deep : d ≤ length b.theirs = omega (arith, length-map theirs.items (symbol_of number_of), c.if-len-from.false, c.from-3.ensures, c.len.ensures, theirs.ok.0) in
    let one : length xs ≡ 1 = omega (arith, c.if-len-ne1.false, c.len-2.ensures, c.in-Some.theirs.ok.0) in
    let alone : symbols_of xs ≡ x ∷ [] = one_alone (symbol_of number_of) xs c.index.result.now one c.index.ensures in
    let cut : IsCut grm p d 0 b.theirs (symbols_of xs) = rw c.in-Some.is at c.in_ok-theirs.ensures in
    let waits : Option Mark = Some (record m { symbol = x }) in
    hidden_asked grm (positions_of c.push.new.self.items) p d b m y x c.prod_len.ensures deep (subst (λ (z : List math.Symbol). IsCut grm p d 0 b.theirs z) alone cut)
    (added position_of _ _ _ c.in_ok-push.ensures.items (at b.turn b.state (x ∷ []) (the_ours y waits))
    (same_position b.turn b.turn b.state b.state (symbols_of xs) (x ∷ []) (the_ours (symbols_of c.in_ok-symbols.symbols.items) (Some (mark_of c.mark_with.result)))
    (the_ours y waits) refl refl alone
    (same_ours (symbols_of c.in_ok-symbols.symbols.items) y (Some (mark_of c.mark_with.result)) waits (ap symbols_of c.in_ok-symbols.ensures.items)
    (ap (λ (k : Mark). Some k) c.mark_with.ensures))))
