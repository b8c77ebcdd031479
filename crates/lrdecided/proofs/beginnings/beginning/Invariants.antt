-- what the symbols so far begin with is set
use Rattle.std.proofs.Common.{drop}
use Rattle.lrdecided.specs.StoredNodes.{symbols_of}
use Rattle.lrdecided.proofs.BeginningsInTurn.{Begun}
use Rattle.lrdecided.proofs.beginnings.beginning.Given as goal

abbrev pub invariant-loop-symbol : goal.invariant-loop-symbol
invariant-loop-symbol l =
    Begun l.grm (symbols_of l.symbols) (symbols_of (drop l.symbol-index l.symbols)) l.tokens
