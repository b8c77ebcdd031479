-- by what they do next
use Rattle.lrexchange.specs.Exchanges as game
use Rattle.lrexchange.proofs.listing.is_level.Goals as goal

pub returns-in-Even : goal.returns-in-Even
returns-in-Even c = λ t. rw c.in-Even.is game.IsLevel.evenly

pub returns-in-Open : goal.returns-in-Open
returns-in-Open c = λ t.
    rw c.in-Open.is (game.IsLevel.opened _ _)

pub returns-in-Before : goal.returns-in-Before
returns-in-Before c = λ t. rw c.in-Before.is (game.IsLevel.before _)
