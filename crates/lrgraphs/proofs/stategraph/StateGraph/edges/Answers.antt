-- symbols are ordered as their numbers
use Rattle.std.proofs.Common.{refl}
use Rattle.lrgraphs.proofs.EdgeFacts.{by_kinds}
use Rattle.lrgraphs.proofs.stategraph.StateGraph.edges.Goals as goal

pub returns-clause-order : goal.returns-clause-order
returns-clause-order g c =
    let ordered = g.met.T.IndexStorage.ordered in
    by_kinds g.T.IndexStorage.number _ (λ r s. ordered r.0 s.0) (λ r t. refl) (λ t r. refl) (λ t u. ordered t.0 u.0)
