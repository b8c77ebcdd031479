-- a turn for each complete item
use Rattle.std.proofs.Common.{refl}
use Rattle.lrclosing.proofs.SymbolsBehindDots.{left_at, left_none}
use Rattle.lrconflicts.specs.StoredMoves.{moves_stored}
use Rattle.lrgrammar.specs.Symbols.{number_of}
use Rattle.lrdecided.specs.Contenders.{complete_of, completes_of}
use Rattle.lrdecided.proofs.FoundContenders.{begin_reductions, next_reductions, end_reductions}
use Rattle.lrdecided.proofs.contending.reductions.Goals as goal

pub loop-complete-init : goal.loop-complete-init
loop-complete-init c =
    begin_reductions (completes_of c.args.completes.now) c.args.token.0 (moves_stored number_of c.new-moves.result.items)

pub loop-complete-preserved : goal.loop-complete-preserved
loop-complete-preserved c =
    let x = c.complete-item.result in
    let left = left_at complete_of c.args.completes.now c.loop-complete.complete-index x x c.loop-complete-test.true c.complete-item.is refl in
    next_reductions _ _ x.production.0 x.tokens.now c.args.token.0 _ _ (rw left at c.loop-complete.invariant) c.in_ok-add_reduction.ensures.kept
    c.in_ok-add_reduction.ensures.added

pub returns : goal.returns
returns c =
    end_reductions _ _ c.args.token.0 _ (left_none complete_of c.args.completes.now c.loop-complete.complete-index c.loop-complete-test.false) c.loop-complete.invariant
