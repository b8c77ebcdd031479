use Rattle.lryacc.proofs.CodeByBytes.{byte-taken, mark-taken}
use Rattle.lryacc.proofs.code.CodeReader.behind_code.Goals as goal

pub returns-in-Some : goal.returns-in-Some
returns-in-Some c =
    mark-taken c.args.ending c.args.at c.args.byte c.args.before c.in-Some.mark c.args.self c.behind_mark.result
    c.in-Some.ensures.some c.behind_mark.ensures

pub returns-in-None : goal.returns-in-None
returns-in-None c =
    byte-taken c.args.ending c.args.at c.args.byte c.args.before c.args.self c.behind_byte.result
    c.in-None.ensures.none c.behind_byte.ensures
