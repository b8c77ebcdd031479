-- item sets with the same items have the same fingerprint
use Rattle.std.proofs.Common.{◌≡◌, ap}
use Rattle.lrspec.specs.grammars.ItemSets.{Items, AreUpwards}
use Rattle.lrspec.specs.merging.WeakCompatibility.{SameItems}
use Rattle.lritems.specs.Fingerprints.{mixed_items, fingerprint_of}
use Rattle.lritems.proofs.SameKeys.{keys_from_same}

-- the fingerprint hangs on the items alone, where they come upwards
pub same_fingerprint : (a b : Items) → AreUpwards a → AreUpwards b → SameItems a b → fingerprint_of a ≡ fingerprint_of b
same_fingerprint a b u w s = ap (mixed_items 0) (keys_from_same a b u w s)
