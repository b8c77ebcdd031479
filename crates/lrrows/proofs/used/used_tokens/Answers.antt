-- each edge on a token brings its token
use Rattle.std.proofs.Common.{◌≡◌, ◌∙◌, ◌∷◌, ◌||◌, ℕ, ◌<◌, Bool, true, is_some, map, option_map, length, refl, ap, arith}
use Rattle.std.proofs.lemmas.List.{length-set}
use Rattle.lrspec.specs.grammars.Grammar.{Token}
use Rattle.lrspec.specs.merging.Graph.{edge}
use Rattle.lrspec.specs.tables.Table.{bit_or_none}
use Rattle.lrgrammar.specs.declared.idx.StIdx.{StIdx}
use Rattle.lrgraphs.specs.GraphOf.{edges_of}
use Rattle.lrgraphs.proofs.DistinctSymbols.{distinct_entries}
use Rattle.lrrows.specs.StateRows.{first_at}
use Rattle.lrrows.proofs.MarkedTokens.{edge_turn}
use Rattle.lrrows.proofs.TokenEdges.{state_tokens_within}
use Rattle.lrrows.proofs.used.used_tokens.Goals as goal

pub loop-symbol-init : goal.loop-symbol-init
loop-symbol-init g c =
    let number = g.T.IndexStorage.number in
    let distinct = rw c.edges-edges.ensures.edges at (distinct_entries number (λ u. number u.0) _ c.edges-edges.ensures.order c.edges-edges.result.now.entries c.len.ensures.ordered) in
    let within = state_tokens_within c.args.grm.now c.args.sg.now (number c.args.stidx.0) c.requires.graph distinct in
    rw (c.into_iter-symbol-iterator.ensures.into_iter_gives.0, c.edges-edges.ensures.edges)
    record {
      bits = c.in_ok-used.ensures.bits;
      within = within;
      each = λ t. ap (λ b. b || is_some (edge c.args.sg.now (number c.args.stidx.0) (Token t))) (c.in_ok-used.ensures.each t);
    }

pub loop-symbol-preserved-in-Token : goal.loop-symbol-preserved-in-Token
loop-symbol-preserved-in-Token g c =
    let number = g.T.IndexStorage.number in
    let left = edges_of number (λ (u : StIdx g.row.T.Denot). number u.0) in
    let k = number c.in-Token.tidx.0 in
    let target = number c.in-Some._target.now.0 in
    let first : left c.loop-symbol.symbol-iterator ≡ (Token k, target) ∷ left c.next.new.self =
    rw (c.in-Some.ensures.steps, c.in-Token.is) refl in
    let within = rw first at c.loop-symbol.invariant.within in
    let set = rw c.from.ensures at c.set.ensures.after in
    let below : k < length c.loop-symbol.used = omega (arith, within.0, c.loop-symbol.invariant.bits) in
    let looked : ℕ → Bool = λ t.
    bit_or_none (option_map (λ ctx. ctx.now) c.args.accepted) t
    || is_some (first_at (map (λ x. (number x.0.0, x.1.now)) c.args.completes.now) t) in
    record {
      bits = ap length set ∙ length-set c.loop-symbol.used k true ∙ c.loop-symbol.invariant.bits;
      within = within.1;
      each =
          edge_turn c.loop-symbol.used c.set.new.self (λ t. looked t || is_some (edge c.args.sg.now (number c.args.stidx.0) (Token t)))
          k target (left c.loop-symbol.symbol-iterator) (left c.next.new.self) first below set c.loop-symbol.invariant.each;
    }

pub loop-symbol-preserved : goal.loop-symbol-preserved
loop-symbol-preserved g c =
    let inv = rw (c.in-Some.ensures.steps, c.in_default.is) at c.loop-symbol.invariant in
    inv
