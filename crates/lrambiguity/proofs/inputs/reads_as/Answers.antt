use Rattle.std.proofs.Common.{[], map}
use Rattle.lrgrammar.specs.Symbols.{symbol_of}
use Rattle.lrtable.specs.RunAnswers.{text_of}
use Rattle.lrconflicts.specs.StoredMoves.{moves_stored}
use Rattle.lrambiguity.proofs.ReplaySteps.{list_read}
use Rattle.lrambiguity.proofs.inputs.reads_as.Goals as goal

pub make_all-made-requires : goal.make_all-made-requires
make_all-made-requires g c = ([], c.new-replay.ensures c.args.grm.now (text_of g.T.IndexStorage.number c.deref.result.now))

pub returns : goal.returns
returns g c = λ is.
    let number = g.T.IndexStorage.number in
    let text = c.args.text.now in
    let made = c.in_ok-made.ensures.made c.if-not-branch.false [] (c.new-replay.ensures c.args.grm.now (text_of number c.deref.result.now)) in
    let reads = rw (c.deref.ensures.value, c.deref-2.ensures.value) at made in
    let list = rw c.deref-3.ensures.value at (c.is_list-is_list.ensures is) in
    list_read number c.args.grm.now (moves_stored number text.moves.items) text.tokens.items c.make_all-made.new.self (map (symbol_of number) c.args.list.now) list.0 list.1 reads
