-- the cores so far have their fingerprints
use Rattle.lrsearches.proofs.FingerprintsInTurn.{AreFingerprintsBelow}
use Rattle.lrsearches.proofs.ways.fingerprints.Given as goal

abbrev pub invariant-loop-number : goal.invariant-loop-number
invariant-loop-number g l = AreFingerprintsBelow l.graph l.number l.fingerprints.items
