use Rattle.lrsparse.proofs.sparsevec.starts.Starts.before.Goals as goal

pub loop-place-init : goal.loop-place-init
loop-place-init c = c.moved_by-start.ensures

pub loop-place-preserved : goal.loop-place-preserved
loop-place-preserved c = λ words are none.
    c.raised_by-start.ensures words are (c.loop-place.invariant words are none)
