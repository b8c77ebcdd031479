use Rattle.std.proofs.Common.{◌≡◌, ◌++◌, map}
use Rattle.lritems.specs.ItemsOf.{items_of}
use Rattle.lrclosing.proofs.WalksOverItems.{FoundAll}
use Rattle.lrrows.specs.StateRows.{complete_items}
use Rattle.lrgrammar.specs.Symbols.{number_of}
use Rattle.lrfindings.specs.StoredCells.{complete}
use Rattle.lrfindings.proofs.cells.reductions_of.Given as goal

abbrev pub invariant-loop-key : goal.invariant-loop-key
invariant-loop-key l =
    record {
      found : FoundAll number_of l.closed.items.entries l.key-iterator;
      items : map complete l.reductions.items ++ complete_items l.grm (items_of number_of l.key-iterator)
          ≡ complete_items l.grm (items_of number_of l.closed.items.entries);
    }
