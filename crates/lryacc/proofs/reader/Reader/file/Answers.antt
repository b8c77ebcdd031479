use Rattle.std.proofs.Common.{arith}
use Rattle.lryacc.specs.AllBodies.{AreAllBodies}
use Rattle.lryacc.specs.Bodies.{IsWhole}
use Rattle.lryacc.proofs.AllBodiesRead.{file_all, on_ok}
use Rattle.lryacc.specs.Declarations.{AreAllDeclared}
use Rattle.lryacc.proofs.AllDeclared.{file-declared}
use Rattle.lryacc.proofs.reader.Reader.file.Goals as goal

pub returns-clause-read : goal.returns-clause-read
returns-clause-read c =
    let told = c.tell_no_rules.ensures.file.faults in
    on_ok c.tell_no_rules.result
    (IsWhole c.tell_no_rules.new.self
    → AreAllBodies c.args.self.now.text.now c.args.self.now.lexemes.now c.args.self.now.dialect c.tell_no_rules.new.self.contents.alternatives.items)
    (λ whole.
    file_all c.args.self.now c.pass_header.new.self c.declarations.new.self c.rules.new.self c.tell_no_rules.new.self
    (c.in_ok-pass_header.ensures.over (omega (arith, whole, told, c.rules.ensures.faults, c.declarations.ensures.file.faults)))
    (c.in_ok-declarations.ensures.reached (omega (arith, whole, told, c.rules.ensures.faults)))
    (c.in_ok-rules.ensures.read (omega (arith, whole, told)))
    c.tell_no_rules.ensures.file c.requires.begins c.requires.none)

pub returns-clause-declared : goal.returns-clause-declared
returns-clause-declared c =
    let told = c.tell_no_rules.ensures.file.faults in
    on_ok c.tell_no_rules.result
    (IsWhole c.tell_no_rules.new.self
    → AreAllDeclared c.args.self.now.text.now c.args.self.now.lexemes.now c.args.self.now.dialect c.tell_no_rules.new.self.contents.statements.items)
    (λ whole.
    file-declared c.args.self.now c.pass_header.new.self c.declarations.new.self c.rules.new.self c.tell_no_rules.new.self
    (c.in_ok-pass_header.ensures.over (omega (arith, whole, told, c.rules.ensures.faults, c.declarations.ensures.file.faults)))
    (c.in_ok-pass_header.ensures.said (omega (arith, whole, told, c.rules.ensures.faults, c.declarations.ensures.file.faults)))
    (c.in_ok-declarations.ensures.reached (omega (arith, whole, told, c.rules.ensures.faults)))
    (c.in_ok-declarations.ensures.said (omega (arith, whole, told, c.rules.ensures.faults)))
    (c.in_ok-rules.ensures.said (omega (arith, whole, told)))
    c.tell_no_rules.ensures.statements c.requires.begins c.requires.unstated)
