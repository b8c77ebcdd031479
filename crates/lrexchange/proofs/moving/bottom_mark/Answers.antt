-- the first mark
use Rattle.std.proofs.Common.{◌≡◌, length, refl, ap, arith}
use Rattle.std.specs.Option.{option_map}
use Rattle.lrgrammar.specs.Symbols.{symbol_of, number_of}
use Rattle.lrexchange.specs.StoredPositions.{mark_of, position_of}
use Rattle.lrexchange.proofs.AskedPositions.{first_mark, one_alone}
use Rattle.lrexchange.proofs.CutStacks.{none_left}
use Rattle.lrexchange.proofs.moving.bottom_mark.Goals as goal

pub returns : goal.returns
returns c =
    let a = position_of c.args.position.now in
    let theirs = c.args.position.now.theirs in
    let x = c.index-symbol.result.now in
    let one : length theirs.items ≡ 1 = omega (arith, c.if-len-ne1.false, c.len.ensures, theirs.ok.0) in
    first_mark a _ (symbol_of number_of x) (one_alone (symbol_of number_of) theirs.items x one c.index-symbol.ensures)
    (ap (option_map mark_of) (none_left c.args.position.now.ours.mark c.in_default.not-Some)) refl
