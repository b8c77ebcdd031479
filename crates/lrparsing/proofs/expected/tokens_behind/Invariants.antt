use Rattle.lrparsing.specs.Expected.{AreShiftedBehind}
use Rattle.lrparsing.specs.Machines.{numbers}
use Rattle.lrparsing.proofs.expected.tokens_behind.Given as goal

abbrev pub invariant-loop-number : goal.invariant-loop-number
invariant-loop-number l = AreShiftedBehind l.machine (numbers l.text) l.number l.tokens.items
