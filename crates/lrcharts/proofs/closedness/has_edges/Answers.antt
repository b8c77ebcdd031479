-- a turn for each edge of the state
use Rattle.std.proofs.Common.{ℕ, ◌≡◌, false, true, sym, ap, ◌∙◌, ◌+◌}
use Rattle.std.specs.Prelude.{not}
use Rattle.std.proofs.lemmas.Bool.{eq-eqb}
use Rattle.lrgrammar.specs.Symbols.{symbol_of, number_of}
use Rattle.lrgrammar.specs.declared.idx.StIdx.{StIdx}
use Rattle.lrgraphs.specs.GraphOf.{edges_of}
use Rattle.lrcharts.specs.Charts.{HasSpan}
use Rattle.lrcharts.proofs.LeavesInTurn.{begin_edges, pass_edge, next_edge, all_edges}
use Rattle.lrcharts.proofs.closedness.has_edges.Goals as goal

pub loop-symbol-init : goal.loop-symbol-init
loop-symbol-init c =
    let i = c.into_iter-symbol-iterator.ensures.into_iter_gives in
    begin_edges c.args.graph.now c.args.from.0 c.args.to.0 (λ x. HasSpan c.args.chart.now x c.args.place (c.args.place + 1)) _
    (ap (edges_of number_of (λ (u : StIdx ℕ). number_of u.0)) i.0 ∙ c.edges-symbol-items.ensures.edges)

pub loop-symbol-preserved-then-ne : goal.loop-symbol-preserved-then-ne
loop-symbol-preserved-then-ne c =
    pass_edge c.args.graph.now c.args.from.0 c.args.to.0 (λ x. HasSpan c.args.chart.now x c.args.place (c.args.place + 1))
    (symbol_of number_of c.in-Some.symbol.now) c.in-Some.target.now.0 _ _ (ap (edges_of number_of (λ (u : StIdx ℕ). number_of u.0)) c.in-Some.ensures.steps)
    (λ same. let wrong : false ≡ true = sym (ap not (eq-eqb c.in-Some.target.now.0 c.args.to.0 same)) ∙ (sym c.ne.ensures ∙ c.if-ne.true) in absurd (cc))
    c.loop-symbol.invariant

pub loop-symbol-preserved : goal.loop-symbol-preserved
loop-symbol-preserved c =
    next_edge c.args.graph.now c.args.from.0 c.args.to.0 (λ x. HasSpan c.args.chart.now x c.args.place (c.args.place + 1))
    (symbol_of number_of c.in-Some.symbol.now) c.in-Some.target.now.0 _ _ (ap (edges_of number_of (λ (u : StIdx ℕ). number_of u.0)) c.in-Some.ensures.steps)
    (c.has_span.ensures.0 c.if-not-has_span.false) c.loop-symbol.invariant

pub returns : goal.returns
returns c = λ _.
    all_edges c.args.graph.now c.args.from.0 c.args.to.0 (λ x. HasSpan c.args.chart.now x c.args.place (c.args.place + 1)) _
    (ap (edges_of number_of (λ (u : StIdx ℕ). number_of u.0)) c.in-None.ensures.steps.0) c.loop-symbol.invariant
