-- the moves are the same, or the entry is certified
use Rattle.lrdecided.specs.Entries.{entry_of}
use Rattle.lrdecided.proofs.CertifiedEntries.{certified_decided}
use Rattle.lrdecided.proofs.unambiguity.is_decided.Goals as goal

pub returns-then-is_same_move : goal.returns-then-is_same_move
returns-then-is_same_move c = λ t differ. absurd (differ (c.is_same_move.ensures c.if-is_same_move.true))

pub returns : goal.returns
returns c = λ t differ.
    certified_decided c.args.search.grm.now c.args.search.graph.now c.requires.graph c.in_order.ensures.shape (entry_of c.args.entry.now) (c.in_ok-is.ensures t)
