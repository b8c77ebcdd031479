use Rattle.lrcommand.proofs.commands.carry_out.Goals as goal

pub returns-in-Answer-clause-run_fault : goal.returns-in-Answer-clause-run_fault
returns-in-Answer-clause-run_fault g c = rw c.in-Answer.is c.answer_input.ensures.beginning

pub returns-in-Answer-clause-ran : goal.returns-in-Answer-clause-ran
returns-in-Answer-clause-ran g c = rw c.in-Answer.is c.answer_input.ensures.all
