use Rattle.lrpager.proofs.pager.collecting.kept_items.Goals as goal

pub complete_items-requires-clause-fits : goal.complete_items-requires-clause-fits
complete_items-requires-clause-fits g c = rw c.as_slice.ensures.value c.requires.fits

pub complete_items-requires-clause-upwards : goal.complete_items-requires-clause-upwards
complete_items-requires-clause-upwards g c = rw c.as_slice.ensures.value c.requires.upwards
