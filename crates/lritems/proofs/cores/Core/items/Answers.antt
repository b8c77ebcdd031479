use Rattle.lritems.proofs.cores.Core.items.Goals as goal

pub returns-clause-upwards : goal.returns-clause-upwards
returns-clause-upwards g c = rw c.self.view_is at c.self.invariant
