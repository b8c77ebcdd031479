-- by what the cell says
use Rattle.lrkept.proofs.choices.takes_at.Goals as goal

pub returns : goal.returns
returns c = rw c.action.ensures.cell at c.takes.ensures
