use Rattle.std.proofs.Common.{◌∙◌, arith}
use Rattle.lryacc.proofs.AllBodiesRead.{reaches_rules}
use Rattle.lryacc.proofs.AllDeclared.{separator-taken}
use Rattle.lryacc.proofs.reader.Reader.declarations.Goals as goal

pub returns-then-branch-clause-reached : goal.returns-then-branch-clause-reached
returns-then-branch-clause-reached c = λ whole.
    let over = c.in_ok-each_declaration.ensures.over (omega (arith, c.separator.ensures.file.faults, whole)) in
    reaches_rules c.args.self.now c.each_declaration.new.self c.separator.new.self c.in_ok-separator.field-0 c.if-branch.true over c.in_ok-separator.ensures.taken

pub returns-then-branch-clause-said : goal.returns-then-branch-clause-said
returns-then-branch-clause-said c = λ whole none.
    separator-taken c.each_declaration.new.self c.separator.new.self c.in_ok-separator.field-0 c.if-branch.true c.in_ok-separator.ensures.taken c.separator.ensures.statements
    ∙ c.in_ok-each_declaration.ensures.said (omega (arith, c.separator.ensures.file.faults, whole)) none
