use Rattle.lrtext.specs.Runs.{passes}
use Rattle.lrtext.proofs.RunFacts.{run_boundary, run_passes, run_stops, cut_whole}
use Rattle.lrtext.proofs.runs.split_run.Goals as goal

-- an end of the run is ASCII, so the text may be cut there
pub split_at-requires : goal.split_at-requires
split_at-requires c = rw c.as_bytes.ensures.value at (run_boundary c.args.run c.as_bytes.result.now c.run_len.result c.requires c.as_bytes.ensures.utf8 c.run_len.ensures.within c.run_len.ensures.all c.run_len.ensures.stops)

-- the bytes before the cut are of the run
pub returns-clause-all : goal.returns-clause-all
returns-clause-all c = rw (c.split_at.ensures.front, ← c.as_bytes.ensures.value) (run_passes (passes c.args.run) c.as_bytes.result.now c.run_len.result c.run_len.ensures.within c.run_len.ensures.all)

-- the text is cut in two
pub returns-clause-whole : goal.returns-clause-whole
returns-clause-whole c = cut_whole _ _ _ c.run_len.result c.split_at.ensures.front c.split_at.ensures.back

-- the run stops there
pub returns-clause-stops : goal.returns-clause-stops
returns-clause-stops c =
    run_stops (passes c.args.run) c.as_bytes.result.now _ _ c.run_len.result c.as_bytes.ensures.value c.split_at.ensures.back c.run_len.ensures.stops
