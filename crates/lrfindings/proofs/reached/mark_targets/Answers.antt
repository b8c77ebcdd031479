-- a turn for each edge of the state
use Rattle.std.proofs.Common.{◌≡◌, ◌∙◌, ℕ, true, false, sym, ap}
use Rattle.lrspec.specs.merging.Graph as math
use Rattle.lrgrammar.specs.Symbols.{number_of, symbol_of}
use Rattle.lrgrammar.specs.declared.idx.StIdx.{StIdx}
use Rattle.lrgraphs.specs.GraphOf.{edges_of}
use Rattle.lrgraphs.proofs.FoundEdges.{found_all}
use Rattle.lrpager.proofs.MarksAdded.{marks_none, marks_then}
use Rattle.lrfindings.specs.Cells.{has_cell}
use Rattle.lrfindings.specs.ReachedStates.{StaysTo}
use Rattle.lrfindings.proofs.ReachedMarks.{begin_followed, next_followed, end_followed}
use Rattle.lrfindings.proofs.reached.mark_targets.Goals as goal

pub loop-symbol-init : goal.loop-symbol-init
loop-symbol-init c =
    let h = c.args.graph.now in
    let s = c.args.from.0 in
    let i = c.into_iter-symbol-iterator.ensures.into_iter_gives in
    let same = ap (edges_of number_of (λ (u : StIdx ℕ). number_of u.0)) i.0 ∙ c.edges-symbol-items.ensures.edges in
    record {
      found =
          rw i.0
          (found_all number_of _ c.edges-symbol-items.ensures.order _ _ (math.edges_of h s) c.edges-symbol-items.ensures.edges i.6);
      only = marks_none _ _ _;
      followed = begin_followed (has_cell c.args.taken.now) h s _ _ same;
    }

pub loop-symbol-preserved-in-Continue-1 : goal.loop-symbol-preserved-in-Continue-1
loop-symbol-preserved-in-Continue-1 c =
    let taken = has_cell c.args.taken.now in
    let h = c.args.graph.now in
    let s = c.args.from.0 in
    let i = c.loop-symbol.invariant in
    let x = symbol_of number_of c.in-Some.symbol.now in
    let to = c.in-Some.to.now.0 in
    let found = rw c.in-Some.ensures.steps at i.found in
    let stay = sym c.stays.ensures ∙ c.if-stays.true in
    let one = c.in_ok-mark.ensures in
    record {
      found = found.1;
      only = marks_then (StaysTo taken h s) (λ k. k ≡ to) _ _ _ _ _ _ (λ k same. rw same (x, found.0, stay)) i.only one.only;
      followed =
          next_followed taken h s _ _ _ _ x to (ap (edges_of number_of (λ (u : StIdx ℕ). number_of u.0)) c.in-Some.ensures.steps) one.only.still
          (λ _. one.marked) i.followed;
    }

pub loop-symbol-preserved : goal.loop-symbol-preserved
loop-symbol-preserved c =
    let taken = has_cell c.args.taken.now in
    let i = c.loop-symbol.invariant in
    let x = symbol_of number_of c.in-Some.symbol.now in
    let to = c.in-Some.to.now.0 in
    let found = rw c.in-Some.ensures.steps at i.found in
    let falls = sym c.stays.ensures ∙ c.if-stays.false in
    record {
      found = found.1;
      only = i.only;
      followed =
          next_followed taken c.args.graph.now c.args.from.0 _ _ _ _ x to
          (ap (edges_of number_of (λ (u : StIdx ℕ). number_of u.0)) c.in-Some.ensures.steps) (λ u m. m)
          (λ stay. let wrong : false ≡ true = sym falls ∙ stay in absurd cc) i.followed;
    }

pub returns-clause-marked : goal.returns-clause-marked
returns-clause-marked c =
    end_followed (has_cell c.args.taken.now) c.args.graph.now c.args.from.0 _ _
    (ap (edges_of number_of (λ (u : StIdx ℕ). number_of u.0)) c.in-None.ensures.steps.0) c.loop-symbol.invariant.followed
