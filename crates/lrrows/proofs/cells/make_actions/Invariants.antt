-- the entries of the tokens so far, and those that are left
use Rattle.lrspec.specs.grammars.Grammar.{token_count}
use Rattle.lrspec.specs.tables.Table.{cell_of}
use Rattle.lrrows.specs.StoredActions.{action_number}
use Rattle.lrrows.proofs.UsedTokens.{IsRowWithLeft}
use Rattle.lrrows.proofs.cells.make_actions.Given as goal

abbrev pub invariant-loop-token : goal.invariant-loop-token
invariant-loop-token g l =
    IsRowWithLeft (λ t. action_number (cell_of l.grm l.sg (g.T.IndexStorage.number l.fn.stidx.0) t)) (token_count l.grm)
    l.token-iterator l.entries.items
