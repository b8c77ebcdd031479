use Rattle.std.proofs.Common.{◌≡◌, ◌∙◌, [], OnOk, IfErr}
use Rattle.lryacc.specs.AllBodies.{Settles}
use Rattle.lryacc.specs.Bodies.{IsTold, IsWhole, delimiters_read}
use Rattle.lryacc.specs.DeclarationsRead.{StatesDeclared}
use Rattle.lryacc.proofs.AllBodiesRead.{on_ok_map, settled}
use Rattle.lryacc.proofs.AllDeclared.{between-count}
use Rattle.lryacc.proofs.DeclarationsRead.{stays-stated}
use Rattle.lryacc.proofs.reader.Reader.declaration_or_gap.Goals as goal
use Rattle.lryacc.proofs.reader.Reader.declaration_or_gap.Goals.{in-Bison, in-Grmtools}

pub returns-then-pass_between-clause-said : goal.returns-then-pass_between-clause-said
returns-then-pass_between-clause-said c = λ whole none. c.pass_between.ensures.said

pub returns-clause-said : goal.returns-clause-said
returns-clause-said c =
    let old = c.pass_between.new.self in
    let now = c.match-self.self in
    let read = c.match-self.read in
    let told : IfErr read (λ halt. IsTold halt now) = elim c.match-self.branch [
      | in-Bison w ↦ rw (w.self-is, w.read-is) w.bison_declaration-read.ensures.told
      | in-Grmtools w ↦ rw (w.self-is, w.read-is) w.grmtools_declaration-read.ensures.told
    ] in
    let said : OnOk read (delimiters_read old ≡ 0 → StatesDeclared old now) = elim c.match-self.branch [
      | in-Bison w ↦ rw (w.self-is, w.read-is)
          (on_ok_map w.bison_declaration-read.result _ (delimiters_read old ≡ 0 → StatesDeclared old w.bison_declaration-read.new.self)
          (λ said none. said (λ same. none)) w.bison_declaration-read.ensures.said)
      | in-Grmtools w ↦ rw (w.self-is, w.read-is) w.grmtools_declaration-read.ensures.said
    ] in
    on_ok_map c.settle.result (Settles read now c.settle.new.self) (IsWhole c.settle.new.self → delimiters_read c.args.self.now ≡ 0 → StatesDeclared c.args.self.now c.settle.new.self)
    (λ settles whole none.
    let one = settled now c.settle.new.self (delimiters_read old ≡ 0 → StatesDeclared old now) read told said settles c.settle.ensures.file whole in
    stays-stated [] one.1 c.settle.ensures.statements ∙ (one.0 (between-count c.args.self.now old c.pass_between.result c.pass_between.ensures.passed ∙ none) ∙ c.pass_between.ensures.said))
    c.settle.ensures.settled
