use Rattle.lryacc.proofs.DeclarationsRead.{alias-takes, text-taken}
use Rattle.lryacc.proofs.reader.Reader.take_alias.Goals as goal

pub returns-in-Some-clause-taken : goal.returns-in-Some-clause-taken
returns-in-Some-clause-taken c = text-taken c.requires c.in-Some.ensures.taken c.take.ensures.statements

pub returns-in-None-clause-taken : goal.returns-in-None-clause-taken
returns-in-None-clause-taken c =
    let last = c.take-in-None in
    alias-takes last.new.self last.result c.requires c.in-None.ensures.taken c.take.ensures.statements last.ensures.taken last.ensures.statements
