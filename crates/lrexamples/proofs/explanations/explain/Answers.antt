use Rattle.std.proofs.Common.{◌∙◌}
use Rattle.lrconflicts.proofs.ListsOfGraphs.{lists_same}
use Rattle.lrexamples.proofs.explanations.explain.Goals as goal

pub reasons-requires-clause-lists : goal.reasons-requires-clause-lists
reasons-requires-clause-lists c =
    let built = c.in_ok-graph in
    rw (c.in_ok-reasons.ensures.grammar, c.in_ok-reasons.ensures.graph)
    (c.in-Some.ensures.lists ∙ lists_same c.args.grm.now built.graph built.table built.ensures.built.table)

pub reasons-requires-clause-contested : goal.reasons-requires-clause-contested
reasons-requires-clause-contested c = rw (c.in_ok-reasons.ensures.grammar, c.in_ok-reasons.ensures.graph) c.in_ok-graph.ensures.built.reductions

pub returns : goal.returns
returns c = record {
  ambiguous = λ is.
      let (r, (k, within, there), some) = rw c.as_slice.ensures.value at (c.is_any_ambiguous-is_ambiguous.ensures is) in
      rw (← c.in_ok-reasons.ensures.grammar) (c.in_ok-told.ensures.ambiguous k r within (rw there some));
}
