use Rattle.std.proofs.Common.{◌∙◌, arith, refl}
use Rattle.lryacc.proofs.BodiesRead.{IsSameFile-again, over_again}
use Rattle.lryacc.proofs.DeclarationsRead.{over-none}
use Rattle.lryacc.proofs.reader.Reader.each_declaration.Goals as goal

pub loop-init : goal.loop-init
loop-init c = record {
  file = (over-none c.args.self.now).file;
  over = λ whole. over-none c.args.self.now;
  said = λ whole none. refl;
}

pub loop-preserved : goal.loop-preserved
loop-preserved c =
    let so_far = c.loop.invariant in
    let one = c.declaration_or_gap.ensures.file in record {
      file = IsSameFile-again so_far.file one;
      over = λ whole. over_again (so_far.over (omega (arith, whole, one.faults))) (c.in_ok-declaration_or_gap.ensures.over whole);
      said = λ whole none.
          let before = so_far.over (omega (arith, whole, one.faults)) in
          c.in_ok-declaration_or_gap.ensures.said whole (before.count ∙ none)
          ∙ so_far.said (omega (arith, whole, one.faults)) none;
    }

pub returns-then-is_at_end-clause-said : goal.returns-then-is_at_end-clause-said
returns-then-is_at_end-clause-said c = c.loop.invariant.said

pub returns-clause-said : goal.returns-clause-said
returns-clause-said c = c.loop.invariant.said

pub returns-then-is_at_end-clause-over : goal.returns-then-is_at_end-clause-over
returns-then-is_at_end-clause-over c = c.loop.invariant.over

pub returns-clause-over : goal.returns-clause-over
returns-clause-over c = c.loop.invariant.over
