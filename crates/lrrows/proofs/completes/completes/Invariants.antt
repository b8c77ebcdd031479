use Rattle.std.proofs.Common.{◌≡◌, ◌++◌, length, map}
use Rattle.std.specs.List.{All}
use Rattle.lrspec.specs.grammars.Grammar.{token_count}
use Rattle.lritems.specs.ItemsOf.{items_of}
use Rattle.lrclosing.proofs.WalksOverItems.{FoundAll}
use Rattle.lrrows.specs.StateRows.{complete_items}
use Rattle.lrrows.proofs.completes.completes.Given as goal

abbrev pub invariant-loop-key : goal.invariant-loop-key
invariant-loop-key g l =
    let number = g.T.IndexStorage.number in
    record {
      found : FoundAll number l.closed.items.entries l.key-iterator;
      items : map (λ c. (number c.0.0, c.1.now)) l.completes.items ++ complete_items l.grm (items_of number l.key-iterator)
          ≡ complete_items l.grm (items_of number l.closed.items.entries);
      bits : All (λ c. length c.1.now ≡ token_count l.grm) l.completes.items;
    }
