-- as many steps as were made led to where it is
use Rattle.lrcharts.specs.Machines.{HasCome}
use Rattle.lrcharts.proofs.machine.machine_after.Given as goal

abbrev pub invariant-loop : goal.invariant-loop
invariant-loop l = HasCome l.grm l.table l.text l.counter l.machine
