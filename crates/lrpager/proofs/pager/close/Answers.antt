use Rattle.std.proofs.Common.{◌≡◌, ap, set, subst, sym, ◌∙◌}
use Rattle.lrspec.specs.grammars.ItemSets.{Fits, AreUpwards}
use Rattle.lrclosing.specs.ItemsOf.{items_of}
use Rattle.lritems.specs.Gotos.{gotos_of}
use Rattle.lrplacing.specs.Construction.{core_at, with_closed}
use Rattle.lrplacing.proofs.ClosedLater.{set_with}
use Rattle.lrpager.specs.Closing.{ClosesTo}
use Rattle.lrpager.specs.Collecting.{OnlyStartsAtZero}
use Rattle.lrpager.proofs.ClosingFacts.{IsCleared, copied_core, is_cleared, candidates_cleared, closes_to, closed_holds, closed_gotos, candidates_with}
use Rattle.lrpager.proofs.StartsAtZero.{only_starts, rows_apart}
use Rattle.lrpager.proofs.pager.close.Given as given
use Rattle.lrpager.proofs.pager.close.Goals as goal
use Rattle.lrpager.proofs.pager.close.Goals.{After-items-given, In_ok-clear_edges, then-not-grew, else-not-grew}

-- the items that are closed are those of the core
same : (g : given.Over) (c : After-items-given g)
    → core_at c.args.drafts.now.items c.args.i ≡ items_of g.T.IndexStorage.number c.items-given.result.now
same g c =
    copied_core c.args.drafts.now.items c.args.i c.index.result.now c.requires.below c.index.ensures
    (c.items-given.ensures.items ∙ c.in_ok-core.ensures ∙ c.core.ensures)

cleared : (g : given.Over) (c : In_ok-clear_edges g)
    → IsCleared c.args.drafts.now.items c.args.i (set c.args.drafts.now.items c.args.i c.clear_edges.new.self)
cleared g c =
    let e = c.clear_edges.ensures in
    is_cleared c.args.drafts.now.items c.args.i c.index_mut.result.now c.clear_edges.new.self c.requires.below c.index_mut.ensures.value e.core e.closed e.edges

-- the state is closed, and its gotos are at hand
turn : (g : given.Over) (c : In_ok-clear_edges g)
    → ClosesTo c.args.grm.now c.args.drafts.now.items c.args.i (with_closed (set c.args.drafts.now.items c.args.i c.clear_edges.new.self) c.args.i)
    (gotos_of g.T.IndexStorage.number c.in_ok-successors.successors.items)
turn g c =
    let listed = c.in_ok-closed.ensures in
    let core =
    copied_core c.args.drafts.now.items c.args.i c.index.result.now c.requires.below c.index.ensures
    (c.items-given.ensures.items ∙ c.in_ok-core.ensures ∙ c.core.ensures) in
    closes_to c.requires.below c.requires.unclosed core (cleared g c) (c.close.ensures.closes.closure _ listed.rows) listed.fits
    (rw c.as_slice.ensures.value at c.in_ok-successors.ensures.gotos)

pub close-requires-clause-fits : goal.close-requires-clause-fits
close-requires-clause-fits g c =
    subst (Fits c.args.grm.now) (same g (goal.at.close-requires-clause-fits g c).After-items-given) (c.requires.holds.fits c.args.i c.requires.below)

pub closed_items-requires-clause-fits : goal.closed_items-requires-clause-fits
closed_items-requires-clause-fits g c =
    subst (Fits c.args.grm.now) (same g (goal.at.closed_items-requires-clause-fits g c).After-items-given) (c.requires.holds.fits c.args.i c.requires.below)

pub closed_items-requires-clause-upwards : goal.closed_items-requires-clause-upwards
closed_items-requires-clause-upwards g c = subst AreUpwards (sym c.items-given.ensures.items) c.items-given.ensures.upwards

pub closed_items-requires-clause-apart : goal.closed_items-requires-clause-apart
closed_items-requires-clause-apart g c =
    let starts = subst (OnlyStartsAtZero c.args.grm.now) (same g (goal.at.closed_items-requires-clause-apart g c).After-items-given) (only_starts (c.requires.holds.sharing c.args.i c.requires.below)) in
    rows_apart c.requires.of.shape starts c.close.ensures.closes

pub gotos-requires-clause-fits : goal.gotos-requires-clause-fits
gotos-requires-clause-fits g c = rw c.as_slice.ensures.value c.in_ok-closed.ensures.fits

pub gotos-requires-clause-upwards : goal.gotos-requires-clause-upwards
gotos-requires-clause-upwards g c = rw c.as_slice.ensures.value c.in_ok-closed.ensures.upwards

pub is_contested-requires-clause-fits : goal.is_contested-requires-clause-fits
is_contested-requires-clause-fits g c = rw c.as_slice-then-tools.ensures.value c.in_ok-closed.ensures.fits

pub is_contested-requires-clause-upwards : goal.is_contested-requires-clause-upwards
is_contested-requires-clause-upwards g c = rw c.as_slice-then-tools.ensures.value c.in_ok-closed.ensures.upwards

pub place_all-requires-clause-unclosed : goal.place_all-requires-clause-unclosed
place_all-requires-clause-unclosed g c =
    ((cleared g (goal.at.place_all-requires-clause-unclosed g c).In_ok-clear_edges).stays c.args.i).closed ∙ c.requires.unclosed

pub place_all-requires-clause-holds : goal.place_all-requires-clause-holds
place_all-requires-clause-holds g c =
    closed_holds c.requires.of.shape (turn g (goal.at.place_all-requires-clause-holds g c).In_ok-clear_edges) c.requires.holds

pub place_all-requires-clause-gotos : goal.place_all-requires-clause-gotos
place_all-requires-clause-gotos g c =
    closed_gotos c.requires.of.shape (turn g (goal.at.place_all-requires-clause-gotos g c).In_ok-clear_edges) c.requires.holds

pub place_all-requires-clause-free : goal.place_all-requires-clause-free
place_all-requires-clause-free g c =
    (cleared g (goal.at.place_all-requires-clause-free g c).In_ok-clear_edges).edges

pub place_all-requires-clause-candidates : goal.place_all-requires-clause-candidates
place_all-requires-clause-candidates g c =
    candidates_cleared (cleared g (goal.at.place_all-requires-clause-candidates g c).In_ok-clear_edges) c.requires.candidates

pub returns-clause-turn : goal.returns-clause-turn
returns-clause-turn g c =
    let mid = c.place_all.new.drafts.items in
    elim c.if-not-grew.branch [
      | then-not-grew w ↦
          let s = w.set_closed.ensures in
          let noted = set_with mid c.args.i w.index_mut-then-not-grew.result.now w.set_closed.new.self c.in_ok-grew.ensures.from w.index_mut-then-not-grew.ensures.value s.core s.edges s.closed in
          record { mid = _; gotos = _; closes = turn g (goal.at.returns-clause-turn g c).In_ok-clear_edges; places = rw (ap (λ d. d.items) w.drafts-is, noted) (rw w.if-not-grew.true at c.in_ok-grew.ensures.placed) }
      | else-not-grew w ↦ record { mid = _; gotos = _; closes = turn g (goal.at.returns-clause-turn g c).In_ok-clear_edges; places = rw (ap (λ d. d.items) w.drafts-is) (rw w.if-not-grew.false at c.in_ok-grew.ensures.placed) }
    ]

pub returns-clause-candidates : goal.returns-clause-candidates
returns-clause-candidates g c =
    let mid = c.place_all.new.drafts.items in
    elim c.if-not-grew.branch [
      | then-not-grew w ↦
          let s = w.set_closed.ensures in
          let noted = set_with mid c.args.i w.index_mut-then-not-grew.result.now w.set_closed.new.self c.in_ok-grew.ensures.from w.index_mut-then-not-grew.ensures.value s.core s.edges s.closed in
          rw (ap (λ d. d.items) w.drafts-is, noted) (candidates_with mid c.args.i c.in_ok-grew.ensures.candidates)
      | else-not-grew w ↦ rw (ap (λ d. d.items) w.drafts-is) c.in_ok-grew.ensures.candidates
    ]

pub close-requires-clause-upwards : goal.close-requires-clause-upwards
close-requires-clause-upwards g c = subst AreUpwards (sym c.items-given.ensures.items) c.items-given.ensures.upwards
