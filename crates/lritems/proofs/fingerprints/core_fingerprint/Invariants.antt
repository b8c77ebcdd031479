use Rattle.std.proofs.Common.{◌≡◌, drop, map}
use Rattle.lritems.specs.Fingerprints.{mixed_items, fingerprint_of}
use Rattle.lritems.proofs.GotoItems.{items_shown}
use Rattle.lritems.proofs.fingerprints.core_fingerprint.Given as goal

abbrev pub invariant-loop-key : goal.invariant-loop-key
invariant-loop-key g l =
    let number = g.T.IndexStorage.number in
    mixed_items l.number (map (λ e. e.0) (items_shown number (λ v. v) (drop l.key-index l.key-items))) ≡ fingerprint_of l.core
