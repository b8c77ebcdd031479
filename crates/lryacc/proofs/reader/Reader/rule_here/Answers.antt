use Rattle.lryacc.proofs.AllBodiesRead.{bodies_again, bodies_none, on_ok_map, semicolon_among}
use Rattle.std.proofs.Common.{◌∙◌, arith, refl}
use Rattle.lryacc.specs.declared.lexemes.LexemeKind.TheVariants as kind
use Rattle.lryacc.specs.Bodies.{SkipsKind}
use Rattle.lryacc.specs.DeclarationsRead.{StatesDeclared}
use Rattle.lryacc.proofs.DeclarationsRead.{silent-skipped}
use Rattle.lryacc.proofs.NamesOfOne.{ok-then}
use Rattle.lryacc.proofs.reader.Reader.rule_here.Goals as goal

pub returns-in_ok-bison_declaration-in-Bison-Some-Directive-clause-read : goal.returns-in_ok-bison_declaration-in-Bison-Some-Directive-clause-read
returns-in_ok-bison_declaration-in-Bison-Some-Directive-clause-read c =
    let old = c.args.self.now in
    let mid = c.bison_declaration.new.self in
    let new = c.pass_wanted.new.self in
    let over = c.bison_declaration.ensures.over in
    ok-then c.pass_wanted.result (bodies_again 0 1 old mid new (bodies_none 0 old mid over (omega (arith, over.on))))
    (semicolon_among c.pass_wanted.result mid new c.pass_wanted.ensures.taken)

pub returns-in_ok-bison_declaration-in-Bison-Some-Directive-clause-said : goal.returns-in_ok-bison_declaration-in-Bison-Some-Directive-clause-said
returns-in_ok-bison_declaration-in-Bison-Some-Directive-clause-said c =
    ok-then c.pass_wanted.result
    (λ skips. silent-skipped kind.Semicolon refl skips c.pass_wanted.ensures.statements ∙ c.in_ok-bison_declaration-in-Bison-Some-Directive.ensures.said (λ e. absurd (cc)))
    c.pass_wanted.ensures.taken

pub returns-in-Bison-Some-Semicolon-clause-read : goal.returns-in-Bison-Some-Semicolon-clause-read
returns-in-Bison-Some-Semicolon-clause-read c =
    semicolon_among c.pass_wanted-in-Bison-Some-Semicolon.result c.args.self.now c.pass_wanted-in-Bison-Some-Semicolon.new.self c.pass_wanted-in-Bison-Some-Semicolon.ensures.taken

pub returns-in-Bison-Some-Semicolon-clause-said : goal.returns-in-Bison-Some-Semicolon-clause-said
returns-in-Bison-Some-Semicolon-clause-said c =
    on_ok_map c.pass_wanted-in-Bison-Some-Semicolon.result (SkipsKind c.args.self.now c.pass_wanted-in-Bison-Some-Semicolon.new.self kind.Semicolon) (StatesDeclared c.args.self.now c.pass_wanted-in-Bison-Some-Semicolon.new.self)
    (λ skips. silent-skipped kind.Semicolon refl skips c.pass_wanted-in-Bison-Some-Semicolon.ensures.statements)
    c.pass_wanted-in-Bison-Some-Semicolon.ensures.taken
