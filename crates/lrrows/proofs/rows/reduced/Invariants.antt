-- the productions of the entries so far are found, among them that of the number that was found last
use Rattle.std.proofs.Common.{◌≡◌, ℕ, take}
use Rattle.lrspec.specs.tables.Table.{Reduce}
use Rattle.lrspec.proofs.grammars.ListMembers.{Among}
use Rattle.lrrows.specs.StoredActions.{action_numbered, actions_in}
use Rattle.lrgrammar.specs.StoredGrammar.{numbers_of}
use Rattle.lrrows.proofs.ReducedRows.{AreFound}
use Rattle.lrrows.proofs.rows.reduced.Given as goal

abbrev pub invariant-loop-number : goal.invariant-loop-number
invariant-loop-number g l = record {
  found : AreFound (numbers_of g.T.IndexStorage.number l.found.keys) (actions_in (take l.number-index l.row));
  last : (p : ℕ) → action_numbered l.last ≡ Reduce p → Among p (numbers_of g.T.IndexStorage.number l.found.keys);
}
