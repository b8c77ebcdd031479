-- the needs that are listed so far close that of the production
use Rattle.lrspec.specs.grammars.ItemSets.{HasItem}
use Rattle.lritems.specs.ItemsOf.{items_of}
use Rattle.lrclosing.proofs.WalksOverItems.{FoundAll}
use Rattle.lrsearches.specs.StoredPlaces.{needs_of}
use Rattle.lrsearches.proofs.ClosesInTurn.{AreClosing}
use Rattle.lrsearches.proofs.closes.closes_by_items.Given as goal

abbrev pub invariant-loop-key : goal.invariant-loop-key
invariant-loop-key g l =
    let number = g.T.IndexStorage.number in
    record {
      found : FoundAll number l.closed.items.entries l.key-iterator;
      closing :
          AreClosing l.grm (items_of number l.closed.items.entries) (number l.token.0) (number l.rule.0) (number l.fn.pidx.0)
          (needs_of number l.needs.items) (λ q d. HasItem (items_of number l.key-iterator) q d);
    }
