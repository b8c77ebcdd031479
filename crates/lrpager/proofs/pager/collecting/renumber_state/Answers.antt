use Rattle.std.proofs.Common.{slice_index, sym, ap, subst}
use Rattle.lrspec.specs.grammars.ItemSets.{Fits}
use Rattle.lrplacing.specs.Construction.{Draft}
use Rattle.lrpager.proofs.KeptStates.{kept_draft}
use Rattle.lrpager.proofs.pager.collecting.renumber_state.Goals as goal

pub closed_state-requires-clause-fits : goal.closed_state-requires-clause-fits
closed_state-requires-clause-fits g c = subst (Fits c.args.grm.now) (sym c.core.ensures) c.requires.fits

pub returns-clause-renumbered : goal.returns-clause-renumbered
returns-clause-renumbered g c =
    kept_draft c.args.kept c.args.grm.now (slice_index c.args.numbers.now) c.args.draft _ _ _ _ _ _ c.in_ok-core_kept.ensures
    (ap (λ (d : Draft). d.core) c.draft.view_is) c.in_ok-closed.ensures.closure c.core.ensures c.in_ok-edges.ensures.edges c.edges.ensures.edges
