use Rattle.lryacc.proofs.DeclarationsRead.{silent-skipped}
use Rattle.lryacc.specs.Bodies.{SkipsKind}
use Rattle.lryacc.specs.DeclarationsRead.{StatesDeclared}
use Rattle.lryacc.proofs.AllBodiesRead.{on_ok_map}
use Rattle.std.proofs.Common.{refl}
use Rattle.lryacc.proofs.reader.Reader.want_unless_broken.Goals as goal

pub returns-then-is_whole-clause-said : goal.returns-then-is_whole-clause-said
returns-then-is_whole-clause-said c =
    on_ok_map c.pass_wanted.result (SkipsKind c.args.self.now c.pass_wanted.new.self c.args.kind) (StatesDeclared c.args.self.now c.pass_wanted.new.self)
    (λ skips. silent-skipped c.args.kind c.requires.silent skips c.pass_wanted.ensures.statements)
    c.pass_wanted.ensures.taken

pub returns-else-is_whole-clause-said : goal.returns-else-is_whole-clause-said
returns-else-is_whole-clause-said c = refl
