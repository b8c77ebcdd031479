use Rattle.std.proofs.Common.{None}
use Rattle.lryacc.specs.declared.faults.Fault.{Fault}
use Rattle.lryacc.proofs.CodeByBytes.{text-ends}
use Rattle.lryacc.proofs.code.CodeReader.fault_at_end.Goals as goal

pub returns-in-File : goal.returns-in-File
returns-in-File c = text-ends {A = Fault} None c.args.ending c.args.self c.in-File.is c.in-Code.is
