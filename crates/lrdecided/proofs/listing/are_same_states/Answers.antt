-- a turn for each state
use Rattle.std.proofs.Common.{sym, ◌∙◌, arith}
use Rattle.lrdecided.proofs.SameNodes.{same_more, same_all}
use Rattle.lrdecided.proofs.listing.are_same_states.Goals as goal

pub loop-i-preserved : goal.loop-i-preserved
loop-i-preserved c =
    same_more (λ s. s.0) c.args.a.now c.args.b.now c.loop-i.i _ _ (omega arith) (omega arith) c.loop-i.invariant
    (sym c.from-one.ensures ∙ c.if-one-other.false ∙ c.from-other.ensures)

pub returns : goal.returns
returns c = λ t.
    same_all (λ s. s.0) c.args.a.now c.args.b.now c.loop-i.i (omega arith) (omega arith) c.loop-i.invariant
