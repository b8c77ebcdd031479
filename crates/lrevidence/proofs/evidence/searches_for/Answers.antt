use Rattle.std.proofs.Common.{refl}
use Rattle.lrevidence.proofs.evidence.searches_for.Goals as goal

pub returns : goal.returns
returns c = record {
  found = refl;
  grammar = c.in_ok-reasons.ensures.grammar;
  graph = c.in_ok-reasons.ensures.graph;
  lost = c.new.ensures;
  decided = c.new-2.ensures.grammar;
  in_graph = c.new-2.ensures.graph;
}
