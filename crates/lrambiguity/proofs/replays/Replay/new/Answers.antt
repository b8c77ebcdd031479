use Rattle.lrambiguity.proofs.ReadingSteps.{read_nothing}
use Rattle.lrambiguity.proofs.replays.Replay.new.Goals as goal

pub returns : goal.returns
returns g c = λ m text. rw (c.new.ensures.items, c.new-2.ensures.items) (read_nothing m)
