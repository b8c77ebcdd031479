-- the set places that are left give what is to be added yet
use Rattle.std.proofs.Common.{◌≡◌, ℕ, ◌+◌, ◌<◌, ◌++◌}
use Rattle.std.specs.Prelude.{IsTrue}
use Rattle.std.specs.List.{flat_map}
use Rattle.lrspec.proofs.grammars.ListMembers.{Among}
use Rattle.lrbits.specs.Bits.{bit}
use Rattle.lrclosing.specs.ItemsOf.{listed_of}
use Rattle.lrclosing.specs.Leads.{rows_in}
use Rattle.lrclosing.specs.Listing.{row_items}
use Rattle.lrclosing.proofs.ListedItems.{row_of_production}
use Rattle.lrclosing.proofs.listing.push_from.Given as goal

abbrev pub invariant-loop-place : goal.invariant-loop-place
invariant-loop-place g l =
    let number = g.T.IndexStorage.number in
    record {
      set : (k : ℕ) → Among k l.place-iterator → (l.productions.from + k < l.end) × IsTrue (bit l.productions.bits k);
      added :
          listed_of number l.items.items ++ flat_map (λ k. row_of_production l.grm (rows_in l.rows) (l.productions.from + k)) l.place-iterator
          ≡ listed_of number l.fn.items.items ++ row_items l.grm (rows_in l.rows) l.from l.end;
    }
