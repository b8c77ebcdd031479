-- in a grammar with a table nothing contends with accepting
use Rattle.lrdecided.proofs.UnambiguousGrammars.{accepts_alone}
use Rattle.lrevidence.proofs.unambiguity.shows_unambiguous.Goals as goal

pub are_all_decided-requires-clause-accepts : goal.are_all_decided-requires-clause-accepts
are_all_decided-requires-clause-accepts c = accepts_alone c.requires.table
