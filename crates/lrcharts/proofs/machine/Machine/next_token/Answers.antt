use Rattle.std.proofs.Common.{sym}
use Rattle.lrtable.proofs.StackLists.{next_there}
use Rattle.lrgrammar.specs.Symbols.{number_of}
use Rattle.lrcharts.proofs.machine.Machine.next_token.Goals as goal

pub returns-in-Some : goal.returns-in-Some
returns-in-Some c =
    let found = c.in-Some.ensures.lookup in
    sym (next_there c.args.grm.now (λ t. number_of t.0) c.args.text.now c.args.self.now.used c.in-Some.token.now found.3.0 found.1)
