use Rattle.std.proofs.Common.{refl}
use Rattle.lryacc.proofs.SaidHeld.{no-said}
use Rattle.lryacc.proofs.meaning.Meaning.new.Goals as goal

pub returns-clause-said : goal.returns-clause-said
returns-clause-said c =
    no-said _ c.default.ensures.0 c.default.ensures.1 refl refl c.new-3.ensures.items c.new-4.ensures.empty
