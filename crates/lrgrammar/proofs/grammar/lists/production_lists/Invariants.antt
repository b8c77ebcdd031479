use Rattle.std.proofs.Common.{map}
use Rattle.lrgrammar.specs.StoredGrammar.{production_of}
use Rattle.lrgrammar.proofs.ProductionLists.{AreListsTo}
use Rattle.lrgrammar.proofs.grammar.lists.production_lists.Given as goal

abbrev pub invariant-loop-i : goal.invariant-loop-i
invariant-loop-i g l =
    AreListsTo g.T.IndexStorage.number (map (production_of g.T.IndexStorage.number) l.prods) l.rules l.lists.items l.i
