use Rattle.lrpage.proofs.pages.Page.add_known.Goals as goal

pub add_loss-requires : goal.add_loss-requires
add_loss-requires c = record { proved = rw c.deref-in-Some-loss.ensures (c.requires.lost c.in-Some-loss.loss c.in-Some-loss.is) }
