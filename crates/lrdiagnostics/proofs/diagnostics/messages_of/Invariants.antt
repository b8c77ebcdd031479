-- those of the faults so far
use Rattle.std.proofs.Common.{take}
use Rattle.lrdiagnostics.specs.Places.{AreOf}
use Rattle.lrdiagnostics.proofs.diagnostics.messages_of.Given as goal

abbrev pub invariant-loop-fault : goal.invariant-loop-fault
invariant-loop-fault l = AreOf l.messages.items (take l.fault-index l.faults)
