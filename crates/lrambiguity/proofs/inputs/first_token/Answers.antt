use Rattle.std.proofs.Common.{sym}
use Rattle.lrtable.proofs.StackLists.{next_there}
use Rattle.lrambiguity.proofs.inputs.first_token.Goals as goal

pub returns-in-Some : goal.returns-in-Some
returns-in-Some g c =
    let found = c.in-Some.ensures.item in
    sym (next_there c.args.grm.now (λ t. g.T.IndexStorage.number t.0) c.args.tokens.now 0 c.in-Some.token.now found.3.0 found.1)
