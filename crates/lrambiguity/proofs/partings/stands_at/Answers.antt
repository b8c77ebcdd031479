use Rattle.lrspec.proofs.merging.StatesHoldWhatStands.{leads_below}
use Rattle.lrambiguity.proofs.partings.stands_at.Goals as goal

pub have_same_items-requires-clause-one : goal.have_same_items-requires-clause-one
have_same_items-requires-clause-one g c =
    leads_below c.in_order.ensures.shape c.requires.graph_of.closures c.requires.graph_of.gotos c.in-Some.ensures
