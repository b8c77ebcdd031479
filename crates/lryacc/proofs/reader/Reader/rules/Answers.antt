use Rattle.std.proofs.Common.{◌≡◌, arith, refl}
use Rattle.lryacc.specs.Bodies.{Stays}
use Rattle.lryacc.proofs.AllBodiesRead.{all_still}
use Rattle.lryacc.proofs.AllDeclared.{states-still}
use Rattle.lryacc.proofs.BodiesRead.{stays-none}
use Rattle.lryacc.proofs.reader.Reader.rules.Goals as goal
use Rattle.lryacc.proofs.reader.Reader.rules.Goals.{then-is_at_end+then-eq+in_ok-tell_unless_broken, else-is_at_end}

pub returns-clause-read : goal.returns-clause-read
returns-clause-read c = λ whole.
    let old = c.args.self.now in
    let now = c.if-is_at_end.self in
    let stays : Stays old now = elim c.if-is_at_end.branch [
      | then-is_at_end+then-eq+in_ok-tell_unless_broken w ↦ rw w.self-is w.tell_unless_broken.ensures.stays
      | else-is_at_end w ↦ rw w.self-is (stays-none old)
    ] in
    all_still old now c.each_rule.new.self c.separator.new.self stays
    (c.in_ok-each_rule.ensures.read (omega (arith, whole, c.separator.ensures.file.faults))) c.separator.ensures.file

pub returns-clause-said : goal.returns-clause-said
returns-clause-said c = λ whole.
    let old = c.args.self.now in
    let now = c.if-is_at_end.self in
    let stays : Stays old now = elim c.if-is_at_end.branch [
      | then-is_at_end+then-eq+in_ok-tell_unless_broken w ↦ rw w.self-is w.tell_unless_broken.ensures.stays
      | else-is_at_end w ↦ rw w.self-is (stays-none old)
    ] in
    let same : now.contents.statements ≡ old.contents.statements = elim c.if-is_at_end.branch [
      | then-is_at_end+then-eq+in_ok-tell_unless_broken w ↦ rw w.self-is w.tell_unless_broken.ensures.statements
      | else-is_at_end w ↦ rw w.self-is refl
    ] in
    states-still old now c.each_rule.new.self c.separator.new.self stays same
    (c.in_ok-each_rule.ensures.said (omega (arith, whole, c.separator.ensures.file.faults))) c.separator.ensures.statements
