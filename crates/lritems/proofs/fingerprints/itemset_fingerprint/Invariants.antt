use Rattle.std.proofs.Common.{◌≡◌, map}
use Rattle.lritems.specs.ItemsOf.{items_of}
use Rattle.lritems.specs.Fingerprints.{mixed_items, fingerprint_of}
use Rattle.lritems.proofs.fingerprints.itemset_fingerprint.Given as goal

abbrev pub invariant-loop-key : goal.invariant-loop-key
invariant-loop-key g l =
    let number = g.T.IndexStorage.number in
    mixed_items l.number (map (λ e. e.0) (items_of number l.key-iterator)) ≡ fingerprint_of (items_of number l.set.items.entries)
