use Rattle.lryacc.specs.Scans.{AreScanned}
use Rattle.lryacc.proofs.scanner.scan.Given as goal

abbrev pub invariant-loop-found : goal.invariant-loop-found
invariant-loop-found l = AreScanned l.text l.fn.dialect l.scanned l.found-iterator
