use Rattle.lrentries.proofs.Images.{no_image}
use Rattle.lrentries.proofs.losses.LossSearch.has_shift.Goals as goal

pub returns : goal.returns
returns c = λ none. rw (← c.self.view_is) (no_image _ c.edge.result _ c.edge.ensures (cc (c.is_some.ensures, none)))
