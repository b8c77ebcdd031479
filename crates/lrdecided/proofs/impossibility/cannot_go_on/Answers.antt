-- the known token is none with which the symbols begin
use Rattle.std.proofs.Common.{ap, ◌∙◌}
use Rattle.lrdecided.specs.Rules as rule
use Rattle.lrdecided.specs.StoredNodes.{next_of}
use Rattle.lrdecided.proofs.impossibility.cannot_go_on.Goals as goal

pub returns-in-Some : goal.returns-in-Some
returns-in-Some c = λ t gr a b e.
    rule.IsImpossible.known c.in-Some.token.0 (e ∙ ap next_of c.in-Some.is) (rw c.from.ensures at (c.cannot_begin.ensures t gr a.one.symbols b))
