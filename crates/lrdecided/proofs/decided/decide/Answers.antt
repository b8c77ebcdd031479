-- by the theorem
use Rattle.lrdecided.specs.Entries.{entry_of}
use Rattle.lrdecided.proofs.CertifiedEntries.{certified_decided, certified_by}
use Rattle.lrdecided.proofs.decided.decide.Goals as goal

pub returns-clause-decided : goal.returns-clause-decided
returns-clause-decided c =
    certified_decided c.args.grm.now c.args.graph.now c.requires.graph c.in_order.ensures.shape (entry_of c.args.entry.now)
    (c.in_ok-is_certified_by_all.ensures c.if-not-branch.false)

pub returns-clause-by_tokens : goal.returns-clause-by_tokens
returns-clause-by_tokens c =
    certified_by c.args.grm.now c.args.graph.now c.requires.graph c.in_order.ensures.shape (entry_of c.args.entry.now) c.in_ok-tokens.tokens c.in_ok-tokens.ensures
