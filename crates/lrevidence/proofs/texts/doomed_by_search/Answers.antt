use Rattle.std.proofs.Common.{true, refl}
use Rattle.lrevidence.proofs.FoundLosses.{told_found, told_doomed}
use Rattle.lrevidence.proofs.texts.doomed_by_search.Goals as goal

pub returns-then-is_some-clause-found : goal.returns-then-is_some-clause-found
returns-then-is_some-clause-found c = told_found c.args.searches.now.losses true _ _ _ _ c.in_ok-loss.ensures.lost c.in_ok-told.ensures

pub returns-then-is_some-clause-doomed : goal.returns-then-is_some-clause-doomed
returns-then-is_some-clause-doomed c = told_doomed c.args.searches.now.losses true refl _ _ c.in_ok-told.ensures
