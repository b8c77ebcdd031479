use Rattle.std.specs.List.{All}
use Rattle.std.specs.Map.{keys_of}
use Rattle.lrambiguity.proofs.ItemKeys.{HasKey}
use Rattle.lrambiguity.proofs.partings.has_items_of.Given as goal

abbrev pub invariant-loop-key : goal.invariant-loop-key
invariant-loop-key g l =
    let has = HasKey g.T.IndexStorage.number l.one in
    All has l.key-iterator → All has (keys_of l.other.items.entries)
