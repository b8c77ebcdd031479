-- the given items that are left give, with the rows, what is to be listed yet
use Rattle.std.proofs.Common.{◌≡◌, ◌≤◌, ◌++◌, length, drop}
use Rattle.lrclosing.specs.ItemsOf.{items_of, listed_of}
use Rattle.lrclosing.specs.Leads.{rows_in}
use Rattle.lrclosing.specs.Listing.{listed_items}
use Rattle.lrclosing.proofs.ListedTurns.{AreFrom}
use Rattle.lrclosing.proofs.listing.push_closed.Given as goal

abbrev pub invariant-loop-key : goal.invariant-loop-key
invariant-loop-key g l =
    let number = g.T.IndexStorage.number in
    let rows = rows_in l.rows in
    let left = items_of number (drop l.key-index l.given) in
    record {
      place : l.from ≤ length l.grm.productions;
      order : AreFrom l.from left;
      listed : listed_of number l.items.items ++ listed_items l.grm rows l.from left ≡ listed_of number l.fn.items.items ++ listed_items l.grm rows 0 (items_of number l.given);
    }
