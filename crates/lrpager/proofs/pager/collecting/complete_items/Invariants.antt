use Rattle.std.proofs.Common.{◌≡◌, ◌++◌, drop}
use Rattle.std.specs.Prelude.{filter}
use Rattle.lritems.specs.ItemsOf.{listed_of}
use Rattle.lrpager.specs.Keeping.{is_complete}
use Rattle.lrpager.proofs.pager.collecting.complete_items.Given as goal

abbrev pub invariant-loop-key : goal.invariant-loop-key
invariant-loop-key g l =
    let number = g.T.IndexStorage.number in
    listed_of number l.complete.items ++ filter (is_complete l.grm) (listed_of number (drop l.key-index l.items))
    ≡ filter (is_complete l.grm) (listed_of number l.items)
