-- both have the token
use Rattle.std.proofs.Common.{sym, ◌∙◌}
use Rattle.lrdecided.specs.StoredNodes.{side_of, node_of}
use Rattle.lrdecided.proofs.TakenAndCut.{take_so, heads_so}
use Rattle.lrdecided.proofs.taking.take_token.Goals as goal

pub returns-clause-settled : goal.returns-clause-settled
returns-clause-settled c = λ t gr listed k.
    let a = node_of c.args.node.now in
    let first = rw c.as_slice.ensures.value at c.in-Some.ensures in
    let second = rw c.as_slice-2.ensures.value at c.in-Some-first_token.ensures in
    let same = sym c.from-second.ensures ∙ sym c.if-first-second.false ∙ c.from-first.ensures in
    take_so gr listed a c.in-Some.token.0 (side_of c.drop_first.new.side) (side_of c.drop_first-2.new.side) c.in-Some-spent.left
    c.in-Some-spent.ensures first (heads_so _ _ a.other.symbols same second) c.drop_first.ensures.side c.drop_first-2.ensures.side k
