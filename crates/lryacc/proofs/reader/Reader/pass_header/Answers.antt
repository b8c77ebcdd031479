use Rattle.std.proofs.Common.{◌∙◌, [], refl}
use Rattle.lryacc.specs.AllBodies.{Settles}
use Rattle.lryacc.specs.Bodies.{IsWhole}
use Rattle.lryacc.specs.DeclarationsRead.{StatesDeclared}
use Rattle.lryacc.proofs.AllBodiesRead.{on_ok_map, settled}
use Rattle.lryacc.proofs.DeclarationsRead.{stays-stated}
use Rattle.lryacc.proofs.reader.Reader.pass_header.Goals as goal

pub returns-then-ne-clause-said : goal.returns-then-ne-clause-said
returns-then-ne-clause-said c = λ whole. refl

pub returns-clause-said : goal.returns-clause-said
returns-clause-said c =
    on_ok_map c.settle.result (Settles c.header-read.result c.header-read.new.self c.settle.new.self) (IsWhole c.settle.new.self → StatesDeclared c.args.self.now c.settle.new.self)
    (λ settles whole.
    let one = settled c.header-read.new.self c.settle.new.self (StatesDeclared c.args.self.now c.header-read.new.self) c.header-read.result
    c.header-read.ensures.told c.header-read.ensures.said settles c.settle.ensures.file whole in
    stays-stated [] one.1 c.settle.ensures.statements ∙ one.0)
    c.settle.ensures.settled
