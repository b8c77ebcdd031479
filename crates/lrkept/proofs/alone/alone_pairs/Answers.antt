-- a turn for each production
use Rattle.std.proofs.Common.{arith}
use Rattle.lrgrammar.proofs.Turns.{index_number}
use Rattle.lrgrammar.specs.Symbols.{number_of}
use Rattle.lrkept.proofs.AlonePairs.{next_pairs, all_pairs}
use Rattle.lrkept.proofs.alone.alone_pairs.Goals as goal

pub loop-number-preserved : goal.loop-number-preserved
loop-number-preserved c =
    let n = c.loop-number.number in
    let is = index_number number_of _ n c.from_usize.result c.unwrap.result c.unwrap.ensures c.from_usize.ensures in
    next_pairs c.args.grm.now n c.unwrap.result c.loop-number.pairs.items c.add_pairs.new.pairs.items is c.loop-number.invariant
    c.in_ok-add_pairs.ensures.alone c.in_ok-add_pairs.ensures.kept c.in_ok-add_pairs.ensures.added

pub returns : goal.returns
returns c =
    all_pairs c.args.grm.now c.loop-number.number c.loop-number.pairs.items
    (omega (arith, c.loop-number-test.false, c.to_usize-number-end.ensures.number, c.prods_len.ensures.value)) c.loop-number.invariant
