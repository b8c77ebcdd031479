use Rattle.std.proofs.Common.{refl, ap, ◌∙◌, slice_index, arith}
use Rattle.std.specs.Prelude.{◌≤◌, length}
use Rattle.std.specs.BTreeMap.{btree_map_len}
use Rattle.std.proofs.lemmas.List.{length-map}
use Rattle.std.proofs.lemmas.Result.{IfOk-weaker}
use Rattle.lrgrammar.specs.Symbols.{symbol_of}
use Rattle.lrgraphs.specs.GraphOf.{edges_of}
use Rattle.lrclosing.proofs.SymbolsBehindDots.{number_fits}
use Rattle.lrgraphs.proofs.EdgeFacts.{by_kinds}
use Rattle.lritems.proofs.ListedMaps.{all_yielded}
use Rattle.lrpager.specs.Collecting.{AreRenumbered}
use Rattle.lrpager.proofs.EdgeWalk.{found_here, left_here, none_left}
use Rattle.lrpager.proofs.MadeEdges.{made_edges, few_entries}
use Rattle.lrpager.proofs.RenumberedEdges.{edge_renumbered, once_renumbered, push_renumbered, none_more}
use Rattle.lrpager.proofs.DistinctTargets.{few_edges}
use Rattle.lrpager.proofs.pager.collecting.renumber_edges.Goals as goal

pub loop-symbol-init : goal.loop-symbol-init
loop-symbol-init g c = rw c.in_ok-pairs.ensures.items refl

pub offset_bounds-numbers-target : goal.offset_bounds-numbers-target
offset_bounds-numbers-target g c =
    let number = g.T.IndexStorage.number in
    let e = c.loop-symbol-item.result in
    let found = found_here number (λ u. u) c.args.edges.now c.loop-symbol.symbol-index e c.loop-symbol-test.true c.loop-symbol-item.is c.requires.once in
    let below = c.requires.apart.below (symbol_of number e.0) e.1 found in
    record { fits = omega arith }

pub bounds-numbers-target : goal.bounds-numbers-target
bounds-numbers-target g c =
    let number = g.T.IndexStorage.number in
    let e = c.loop-symbol-item.result in
    let found = found_here number (λ u. u) c.args.edges.now c.loop-symbol.symbol-index e c.loop-symbol-test.true c.loop-symbol-item.is c.requires.once in
    c.requires.apart.below (symbol_of number e.0) e.1 found

pub loop-symbol-preserved : goal.loop-symbol-preserved
loop-symbol-preserved g c =
    let number = g.T.IndexStorage.number in
    let k = c.loop-symbol.symbol-index in
    let e = c.loop-symbol-item.result in
    let same = (rw c.unwrap.ensures at c.from_usize.ensures).1 in
    push_renumbered number (λ u. number u.0) (slice_index c.args.numbers.now) c.loop-symbol.pairs.items c.push.new.self.items e.0 (record { 0 = c.unwrap.result }) e.1 _ _ _
    c.in_ok-push.ensures.items same (left_here number (λ u. u) c.args.edges.now k e c.loop-symbol-test.true c.loop-symbol-item.is) c.loop-symbol.invariant

pub unwrap-requires : goal.unwrap-requires
unwrap-requires g c =
    let number = g.T.IndexStorage.number in
    let e = c.loop-symbol-item.result in
    let found = found_here number (λ u. u) c.args.edges.now c.loop-symbol.symbol-index e c.loop-symbol-test.true c.loop-symbol-item.is c.requires.once in
    number_fits _ _ g.T.IndexStorage.MAX (slice_index c.args.numbers.now e.1) c.from_usize.ensures
    (c.requires.most e.1 (c.requires.apart.below (symbol_of number e.0) e.1 found))

pub returns-clause-edges : goal.returns-clause-edges
returns-clause-edges g c =
    let number = g.T.IndexStorage.number in
    let ordered = g.met.T.IndexStorage.ordered in
    let pairs = c.loop-symbol.pairs in
    let f = slice_index c.args.numbers.now in
    let shown = edges_of number (λ u. u) c.args.edges.now in
    let same = none_more _ _ _ f (none_left number (λ u. u) c.args.edges.now c.loop-symbol.symbol-index c.loop-symbol-test.false) c.loop-symbol.invariant in
    IfOk-weaker c.from_iter.result _ (λ es. AreRenumbered f shown (edges_of number (λ u. number u.0) es.entries)) (λ es ran.
    let end = ran.3.2 tt in
    let all = all_yielded pairs.items ran.1 ran.0 ran.3.0 end.0 ran.2.0 (ran.2.1 ∙ pairs.ok.0) ran.3.1 end.1 in
    λ x. made_edges number (λ u. number u.0) _ (by_kinds number _ (λ r s. ordered r.0 s.0) (λ r t. refl) (λ t r. refl) (λ t u. ordered t.0 u.0)) pairs.items es
    (rw same (once_renumbered f shown c.requires.once)) (rw all at ran.4) x
    ∙ (rw same (edge_renumbered f shown x))) c.from_iter.ensures.ran

pub returns-clause-len : goal.returns-clause-len
returns-clause-len g c =
    let number = g.T.IndexStorage.number in
    let ordered = g.met.T.IndexStorage.ordered in
    let pairs = c.loop-symbol.pairs in
    let f = slice_index c.args.numbers.now in
    let shown = edges_of number (λ u. u) c.args.edges.now in
    let same = none_more _ _ _ f (none_left number (λ u. u) c.args.edges.now c.loop-symbol.symbol-index c.loop-symbol-test.false) c.loop-symbol.invariant in
    IfOk-weaker c.from_iter.result _ (λ es. btree_map_len es ≤ length c.args.numbers.now) (λ es ran.
    let end = ran.3.2 tt in
    let all = all_yielded pairs.items ran.1 ran.0 ran.3.0 end.0 ran.2.0 (ran.2.1 ∙ pairs.ok.0) ran.3.1 end.1 in
    let few = few_entries number (λ u. number u.0) _ (by_kinds number _ (λ r s. ordered r.0 s.0) (λ r t. refl) (λ t r. refl) (λ t u. ordered t.0 u.0)) pairs.items es
    (rw same (once_renumbered f shown c.requires.once)) (rw all at ran.4) in
    let long = ap length same in
    let most = few_edges _ shown c.requires.once c.requires.apart in
    omega (arith, few, rw (length-map, length-map, length-map) at long, rw length-map at most)) c.from_iter.ensures.ran
