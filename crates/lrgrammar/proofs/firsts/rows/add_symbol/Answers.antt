use Rattle.std.proofs.Common.{◌≡◌, [], get_or, set, ap, arith}
use Rattle.std.proofs.lemmas.List.{get_or_default}
use Rattle.lrgrammar.specs.FirstRows.{row}
use Rattle.lrgrammar.proofs.AddedSymbols.{adds_from_join, adds_from_set}
use Rattle.lrgrammar.proofs.firsts.rows.add_symbol.Goals as goal

pub join-requires-clause-from : goal.join-requires-clause-from
join-requires-clause-from g c =
    let f = rw c.in-Rule.is at c.requires.fits in
    omega (arith, f.0, c.to_usize.ensures.number)

pub returns-in-Rule : goal.returns-in-Rule
returns-in-Rule g c =
    let f = rw c.in-Rule.is at c.requires.fits in
    rw (c.in-Rule.is, ← c.to_usize.ensures.number) (adds_from_join c.args.rows.now c.join.new.rows c.args.to c.to_usize.result c.join.result c.requires.to (rw c.to_usize.ensures.number f.1) c.join.ensures.after c.join.ensures.changed)

pub returns-in-Token : goal.returns-in-Token
returns-in-Token g c =
    let x = c.args.rows.now in
    let f = rw c.in-Token.is at c.requires.fits in
    let q : get_or x c.args.to c.index-rows-to.result ≡ row x c.args.to = get_or_default x c.args.to c.index-rows-to.result [] c.requires.to in
    rw (c.in-Token.is, ← c.to_usize-in-Token.ensures.number)
    (adds_from_set x _ c.args.to c.to_usize-in-Token.result c.set.result c.requires.to (rw c.to_usize-in-Token.ensures.number f)
    (ap (λ v. set x c.args.to v) (rw q at c.set.ensures.after))
    (rw q at c.set.ensures.changed))
