use Rattle.std.proofs.Common.{◌≡◌, ◌∙◌, ◌++◌, [], map, ap, arith}
use Rattle.std.specs.Prelude.{option_to_list}
use Rattle.std.specs.List.{flat_map, range_with_len}
use Rattle.lrspec.specs.grammars.Grammar.{token_count}
use Rattle.lrspec.specs.merging.Graph.{closed_of}
use Rattle.lrrows.specs.StateRows.{complete_items}
use Rattle.lrfindings.specs.CellConflicts.{conflicts_at, made_at, made_in, resolved_at}
use Rattle.lrfindings.specs.StoredCells.{complete}
use Rattle.lrfindings.proofs.CellsInTurn.{nothing_listed, no_conflicts_in, none_resolved_in, given_next}
use Rattle.lrfindings.proofs.ReducedPairs.{none_reduced, reduced_there}
use Rattle.lrfindings.proofs.cells.Cells.add_state.Goals as goal

pub reductions_of-requires : goal.reductions_of-requires
reductions_of-requires c = rw c.closed_state.ensures.items (c.requires.graph.closed _ c.requires.below)

pub add_token-requires-clause-fits : goal.add_token-requires-clause-fits
add_token-requires-clause-fits c = c.requires.graph.closed _ c.requires.below

pub loop-token-preserved : goal.loop-token-preserved
loop-token-preserved c =
    let grm = c.args.looked.grm.now in
    let h = c.args.looked.graph.now in
    let s = c.args.state.0 in
    record {
      left = given_next (conflicts_at grm h s) c.loop-token.token _ _ _ c.loop-token.invariant.left c.in_ok-production.ensures.left;
      resolved = given_next (resolved_at grm h s) c.loop-token.token _ _ _ c.loop-token.invariant.resolved c.in_ok-production.ensures.resolved;
      made =
          given_next (λ t. option_to_list (made_at grm h s t)) c.loop-token.token [] _ _ c.loop-token.invariant.made
          (c.in_ok-push_made.ensures ∙ ap (λ o. c.loop-token.made.items ++ option_to_list o) c.in_ok-production.ensures.made);
      reduced = c.in_ok-production.ensures.reduced ∙ c.loop-token.invariant.reduced;
    }

pub returns-then-is_empty-clause-left : goal.returns-then-is_empty-clause-left
returns-then-is_empty-clause-left c =
    let grm = c.args.looked.grm.now in
    let h = c.args.looked.graph.now in
    let s = c.args.state.0 in
    let rs = c.in_ok-reductions.reductions in
    let items : map complete rs.items ≡ complete_items grm (closed_of h s) = c.in_ok-reductions.ensures ∙ ap (complete_items grm) c.closed_state.ensures.items in
    let none : map complete rs.items ≡ [] = ap (map complete) (nothing_listed rs.items _ c.is_empty.result c.is_empty.ensures c.if-is_empty.true rs.ok.0) in
    no_conflicts_in grm h s (map complete rs.items) c.closed_state.ensures.upwards (c.requires.graph.closed _ c.requires.below) items none _ _

pub returns-then-is_empty-clause-resolved : goal.returns-then-is_empty-clause-resolved
returns-then-is_empty-clause-resolved c =
    let grm = c.args.looked.grm.now in
    let h = c.args.looked.graph.now in
    let s = c.args.state.0 in
    let rs = c.in_ok-reductions.reductions in
    let items : map complete rs.items ≡ complete_items grm (closed_of h s) = c.in_ok-reductions.ensures ∙ ap (complete_items grm) c.closed_state.ensures.items in
    let none : map complete rs.items ≡ [] = ap (map complete) (nothing_listed rs.items _ c.is_empty.result c.is_empty.ensures c.if-is_empty.true rs.ok.0) in
    none_resolved_in grm h s (map complete rs.items) c.closed_state.ensures.upwards (c.requires.graph.closed _ c.requires.below) items none _ _

pub returns-then-is_empty-clause-reduced : goal.returns-then-is_empty-clause-reduced
returns-then-is_empty-clause-reduced c =
    let grm = c.args.looked.grm.now in
    let h = c.args.looked.graph.now in
    let s = c.args.state.0 in
    let rs = c.in_ok-reductions.reductions in
    let items : map complete rs.items ≡ complete_items grm (closed_of h s) = c.in_ok-reductions.ensures ∙ ap (complete_items grm) c.closed_state.ensures.items in
    let none : rs.items ≡ [] = nothing_listed rs.items _ c.is_empty.result c.is_empty.ensures c.if-is_empty.true rs.ok.0 in
    none_reduced grm h s rs.items _ items none

pub returns-clause-reduced : goal.returns-clause-reduced
returns-clause-reduced c =
    let grm = c.args.looked.grm.now in
    let h = c.args.looked.graph.now in
    let s = c.args.state.0 in
    let rs = c.in_ok-reductions.reductions in
    let items : map complete rs.items ≡ complete_items grm (closed_of h s) = c.in_ok-reductions.ensures ∙ ap (complete_items grm) c.closed_state.ensures.items in
    let done : c.loop-token.token ≡ token_count grm =
    omega (arith, c.loop-token.auto.token-end, c.loop-token-test.false, c.from-token-end.ensures, c.tokens_len.ensures.value) in
    let made : c.loop-token.made.items ≡ made_in grm h s =
    c.loop-token.invariant.made ∙ ap (λ n. flat_map (λ t. option_to_list (made_at grm h s t)) (range_with_len 0 n)) done in
    reduced_there grm h s rs.items c.args.self.now.reduced.items items c.loop-token.made.items _ made
    (rw (c.from.ensures, c.as_slice-2.ensures.value, c.as_slice-3.ensures.value, c.loop-token.invariant.reduced) at c.in_ok-add_reduced.ensures)
