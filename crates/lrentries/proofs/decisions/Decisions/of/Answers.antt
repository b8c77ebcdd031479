use Rattle.lrdecided.specs.Entries.{entry_of}
use Rattle.lrentries.proofs.FoundDecisions.{found_so}
use Rattle.lrentries.proofs.decisions.Decisions.of.Goals as goal

pub decide-requires-clause-ways : goal.decide-requires-clause-ways
decide-requires-clause-ways c = rw (← c.self.view_is) at c.requires

pub returns : goal.returns
returns c =
    rw (← c.self.view_is)
    (found_so c.self.inside.grm.now c.self.inside.graph.now c.args.entry (entry_of c.in-Some.meeting) c.in_ok-decided.decided
    c.in-Some.ensures c.in_ok-decided.ensures.decided c.in_ok-decided.ensures.by_tokens)
