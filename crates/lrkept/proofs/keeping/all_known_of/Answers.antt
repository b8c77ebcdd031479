-- a turn for each move
use Rattle.lrconflicts.specs.StoredMoves.{move_of}
use Rattle.lrdecided.proofs.SameNodes.{all_of}
use Rattle.lrgrammar.specs.Symbols.{number_of}
use Rattle.lrkept.specs.Keeping.{IsKnownOf}
use Rattle.lrkept.proofs.KeptCells.{move_more}
use Rattle.lrkept.proofs.keeping.all_known_of.Goals as goal

pub loop-theirs-preserved : goal.loop-theirs-preserved
loop-theirs-preserved c =
    record {
      won = c.in_ok-of_this.ensures.won;
      known = move_more _ _ _ c.known_of_both-known.ensures c.args.automaton.grm.now c.args.automaton.graph.now c.args.automaton.table.now c.args.cell.0.0
          c.args.cell.1.0 (move_of number_of) c.args.moves.now c.loop-theirs.theirs-index _ c.loop-theirs-test.true
          c.loop-theirs.invariant.known c.in_ok-of_this.ensures.known;
    }

pub returns-clause-known : goal.returns-clause-known
returns-clause-known c =
    all_of (move_of number_of)
    (IsKnownOf c.loop-theirs.known c.args.automaton.grm.now c.args.automaton.graph.now c.args.automaton.table.now c.args.cell.0.0 c.args.cell.1.0)
    c.args.moves.now c.loop-theirs.theirs-index c.loop-theirs-test.false c.loop-theirs.invariant.known
