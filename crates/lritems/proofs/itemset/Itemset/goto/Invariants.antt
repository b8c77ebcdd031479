use Rattle.lrgrammar.specs.Symbols.{symbol_of}
use Rattle.lritems.specs.ItemsOf.{items_of}
use Rattle.lrclosing.proofs.WalksOverItems.{FoundAll}
use Rattle.lritems.proofs.GotoUnderway.{IsMoving}
use Rattle.lritems.proofs.itemset.Itemset.goto.Given as goal

abbrev pub invariant-loop-key : goal.invariant-loop-key
invariant-loop-key g l =
    let number = g.T.IndexStorage.number in
    record {
      found : FoundAll number l.self.items.entries l.key-iterator;
      moving : IsMoving l.grm (items_of number l.self.items.entries) (symbol_of number l.sym) (items_of number l.key-iterator) (items_of number l.moved.items.entries);
    }
