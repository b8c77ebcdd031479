use Rattle.lrambiguity.proofs.TwoTrees.{trees_differ}
use Rattle.lrgrammar.specs.Symbols.{number_of}
use Rattle.lrreasons.proofs.ProvedOnes.{some_follows}
use Rattle.lrreasons.proofs.reasons.Reasons.ambiguity_by.Goals as goal

pub returns-clause-differ : goal.returns-clause-differ
returns-clause-differ c =
    some_follows c.in_ok-proved.proved
    (λ a p. trees_differ number_of (λ m n same. same) c.self.inside.grm.now
    a.ambiguity.text.items a.ambiguity.before.items a.ambiguity.one.items a.ambiguity.other.items
    a.ambiguity.one_tree a.ambiguity.other_tree p.trees)
    c.in_ok-proved.ensures
