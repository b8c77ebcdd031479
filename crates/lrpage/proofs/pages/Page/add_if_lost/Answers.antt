use Rattle.lrpage.proofs.pages.Page.add_if_lost.Goals as goal

pub add_lost_tag-requires : goal.add_lost_tag-requires
add_lost_tag-requires c = record { proved = rw c.deref.ensures (c.requires.lost c.in-Some.loss c.in-Some.is) }
