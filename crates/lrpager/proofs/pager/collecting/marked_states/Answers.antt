use Rattle.std.proofs.Common.{◌≡◌, sym, ◌∙◌, ap, length, slice_index, arith}
use Rattle.std.proofs.lemmas.List.{length-map, length-drop, map_push}
use Rattle.std.proofs.lemmas.Option.{slice_get_within}
use Rattle.std.proofs.lemmas.List.Elements.{All-push}
use Rattle.lrspec.specs.grammars.ItemSets.{Fits}
use Rattle.lrspec.specs.merging.Graph.{IsInOrder}
use Rattle.lrgraphs.specs.GraphOf.{state_of, graph_of}
use Rattle.lrpager.specs.Collecting.{OnlyStartsAtZero}
use Rattle.lrpager.proofs.CollectedBelow.{first_left, kept_not, kept_more, kept_counted, kept_count, collected_all, apart_at, of_each_core, number_most}
use Rattle.lrpager.proofs.pager.collecting.marked_states.Goals as goal

pub loop-draft-preserved-then-not-is_marked : goal.loop-draft-preserved-then-not-is_marked
loop-draft-preserved-then-not-is_marked g c =
    let i = c.loop-draft.invariant in
    let steps = c.in-Some.ensures.steps in
    let first = first_left c.args.drafts.items c.loop-draft.k c.in-Some.draft _ (sym i.rest ∙ steps.0) in
    let below = slice_get_within c.args.drafts.items c.loop-draft.k c.in-Some.draft first.0 in
    record {
      len = omega (arith, steps.1, ap length steps.0, i.len);
      rest = first.1;
      within = omega (arith, below);
      closer = i.closer;
      collecting =
          kept_not c.args.kept c.args.grm.now (slice_index c.args.numbers.now) c.args.drafts.items c.args.marks.now c.loop-draft.k _ c.loop-draft.edges_len (omega (arith, below, c.requires.marks))
          (sym c.get-is_marked.ensures.value ∙ c.if-not-is_marked.true) i.collecting;
      order = i.order;
    }

pub renumber_state-requires-clause-fits : goal.renumber_state-requires-clause-fits
renumber_state-requires-clause-fits g c =
    let first = first_left c.args.drafts.items c.loop-draft.k c.in-Some.draft _ (sym c.loop-draft.invariant.rest ∙ c.in-Some.ensures.steps.0) in
    of_each_core (Fits c.args.grm.now) c.args.drafts.items c.loop-draft.k c.in-Some.draft first.0 c.requires.fits

pub renumber_state-requires-clause-starts : goal.renumber_state-requires-clause-starts
renumber_state-requires-clause-starts g c =
    let first = first_left c.args.drafts.items c.loop-draft.k c.in-Some.draft _ (sym c.loop-draft.invariant.rest ∙ c.in-Some.ensures.steps.0) in
    of_each_core (OnlyStartsAtZero c.args.grm.now) c.args.drafts.items c.loop-draft.k c.in-Some.draft first.0 c.requires.starts

pub renumber_state-requires-clause-of : goal.renumber_state-requires-clause-of
renumber_state-requires-clause-of g c = c.requires.of

pub renumber_state-requires-clause-apart : goal.renumber_state-requires-clause-apart
renumber_state-requires-clause-apart g c =
    let first = first_left c.args.drafts.items c.loop-draft.k c.in-Some.draft _ (sym c.loop-draft.invariant.rest ∙ c.in-Some.ensures.steps.0) in
    apart_at c.args.drafts.items (length c.args.numbers.now) c.loop-draft.k c.in-Some.draft first.0 (c.requires.numbers.length_is ∙ c.requires.marks) c.requires.below c.requires.one_symbol

pub renumber_state-requires-clause-most : goal.renumber_state-requires-clause-most
renumber_state-requires-clause-most g c = λ k l.
    let at = c.requires.numbers.at k (omega (arith, l, c.requires.numbers.length_is)) in
    omega (arith, at, number_most c.args.marks.now k, c.requires.marks, c.requires.most)

pub loop-draft-preserved : goal.loop-draft-preserved
loop-draft-preserved g c =
    let number = g.T.IndexStorage.number in
    let i = c.loop-draft.invariant in
    let steps = c.in-Some.ensures.steps in
    let first = first_left c.args.drafts.items c.loop-draft.k c.in-Some.draft _ (sym i.rest ∙ steps.0) in
    let below = slice_get_within c.args.drafts.items c.loop-draft.k c.in-Some.draft first.0 in
    let state = c.in_ok-state.state in
    let one = c.in_ok-state.ensures in
    let more = c.len-edges_len.ensures.len in
    record {
      len = omega (arith, steps.1, ap length steps.0, i.len);
      rest = first.1;
      within = omega (arith, below);
      closer = one.closer;
      collecting =
          kept_more c.args.kept c.args.grm.now (slice_index c.args.numbers.now) c.args.drafts.items c.args.marks.now c.loop-draft.k _ _ c.loop-draft.edges_len c.len-edges_len.result c.in-Some.draft (state_of number state)
          (sym c.get-is_marked.ensures.value ∙ c.if-not-is_marked.false) first.0 one.renumbered (rw length-map more) (omega (arith, more, one.len, c.requires.numbers.length_is, c.requires.marks))
          (rw c.in_ok-push.ensures.items (map_push (state_of number) c.loop-draft.states.items state)) i.collecting;
      order =
          rw (c.in_ok-push.ensures.items, map_push (state_of number) c.loop-draft.states.items state)
          (All-push IsInOrder (graph_of number c.loop-draft.states.items) (state_of number state) i.order one.order);
    }

pub returns-clause-collected : goal.returns-clause-collected
returns-clause-collected g c =
    let i = c.loop-draft.invariant in
    let kept = i.collecting in
    let left = ap length i.rest ∙ length-drop c.loop-draft.k c.args.drafts.items in
    let all : c.loop-draft.k ≡ length c.args.drafts.items = omega (arith, left, i.len, i.within, c.in-None.ensures.steps.0) in (
      kept.whole,
      collected_all c.args.grm.now (slice_index c.args.numbers.now) c.args.drafts.items c.args.marks.now c.loop-draft.k kept.whole kept.collecting.collected all c.requires.marks c.requires.below
          (λ u l. c.requires.numbers.at u (omega (arith, l, c.requires.marks))),
      kept.kept_is,
    )

pub returns-clause-len : goal.returns-clause-len
returns-clause-len g c =
    let i = c.loop-draft.invariant in
    let left = ap length i.rest ∙ length-drop c.loop-draft.k c.args.drafts.items in
    let all : c.loop-draft.k ≡ length c.args.drafts.items = omega (arith, left, i.len, i.within, c.in-None.ensures.steps.0) in
    sym (length-map c.loop-draft.states.items (state_of g.T.IndexStorage.number))
    ∙ kept_count c.args.kept c.args.grm.now (slice_index c.args.numbers.now) c.args.drafts.items c.args.marks.now c.loop-draft.k _ c.loop-draft.edges_len i.collecting all c.requires.marks

pub returns-clause-edges : goal.returns-clause-edges
returns-clause-edges g c =
    kept_counted c.args.kept c.args.grm.now (slice_index c.args.numbers.now) c.args.drafts.items c.args.marks.now c.loop-draft.k _ c.loop-draft.edges_len c.loop-draft.invariant.collecting
