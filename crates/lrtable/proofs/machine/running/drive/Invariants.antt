use Rattle.lrtable.specs.RunAnswers.{text_of}
use Rattle.lrtable.specs.Reached.{IsReachedIn}
use Rattle.lrtable.specs.WorkingMachine.{config_of}
use Rattle.lrtable.proofs.machine.running.drive.Given as goal

-- as many steps as were made lead to where the machine is
abbrev pub invariant-loop-made : goal.invariant-loop-made
invariant-loop-made g l =
    let number = g.T.IndexStorage.number in
    IsReachedIn l.grm l.table (text_of number l.text) l.made (config_of number l.machine l.text)
