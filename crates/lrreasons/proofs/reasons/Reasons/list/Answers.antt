use Rattle.lrreasons.proofs.reasons.Reasons.list.Goals as goal

pub list_by-requires-clause-contested : goal.list_by-requires-clause-contested
list_by-requires-clause-contested c =
    let same = rw (c.in-Some.is) at c.self.invariant.1 in
    rw (same.0, same.1) (rw (← c.self.view_is) at c.requires.contested)

pub list_by-requires-in-None-clause-contested : goal.list_by-requires-in-None-clause-contested
list_by-requires-in-None-clause-contested c =
    let made = c.in_ok-new-in-None.ensures in
    rw (made.grammar, made.graph) (rw (← c.self.view_is) at c.requires.contested)
