use Rattle.lryacc.specs.declared.faults.FaultKind.TheVariants.{UselessProduction}
use Rattle.lryacc.specs.Told.{fault_at}
use Rattle.lryacc.proofs.ToldFaults.{images-there}
use Rattle.lryacc.proofs.meaning.Meaning.tell_useless.Goals as goal

pub returns-clause-warned : goal.returns-clause-warned
returns-clause-warned c =
    images-there (fault_at UselessProduction) _ c.add_at.new.faults.items c.args.useless.now.productions.items
    (rw c.as_slice-productions.ensures.value at c.in_ok-add_at.ensures.added)
