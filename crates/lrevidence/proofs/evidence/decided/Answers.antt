use Rattle.lrevidence.proofs.evidence.decided.Goals as goal

pub of-requires : goal.of-requires
of-requires c = rw (c.requires.grammar, c.requires.graph) (rw c.in-Some-true.is-0 at c.ways.ensures)
