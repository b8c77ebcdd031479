use Rattle.std.proofs.Common.{◌≡◌, ◌∙◌, ◌-◌, ◌^◌, [], false, map, sym}
use Rattle.lrspec.specs.tables.LrTables.{HasNoPrecedences}
use Rattle.lrspec.specs.tables.Table.{lists_of}
use Rattle.lrverdicts.specs.Listed.{told}
use Rattle.lrfindings.specs.ReachedStates.{AreLeft, AreNeverReduced, AreResolved}
use Rattle.lrfindings.specs.StoredCells.{resolution}
use Rattle.lrfindings.proofs.FoundInCells.{of_kept, decides, decides_not, given_some, plain_if_false, some_if_true, resolved_either, all_are_left}
use Rattle.lrfindings.proofs.FoundNothing.{nothing_found, none_both}
use Rattle.lrspec.proofs.texts.ResultsPassedOn.{error_passed}
use Rattle.lrfindings.specs.FindErrors.{IsNothingFound, parts_error, build_error}
use Rattle.lrfindings.proofs.NothingFound.{by_parts, by_build}
use Rattle.lrfindings.proofs.findings.find_with.Goals as goal

pub is_unambiguous-is_unambiguous-requires : goal.is_unambiguous-is_unambiguous-requires
is_unambiguous-is_unambiguous-requires c = let (h, built, kept) = c.in_ok-graph.ensures.built in built.table_for

pub returns-clause-found : goal.returns-clause-found
returns-clause-found c =
    let (h, built, kept) = c.in_ok-graph.ensures.built in
    let cells = c.in_ok-cells.ensures in
    let grm = c.in_ok-grm.grm in
    let graph = c.in_ok-graph.graph in
    let plain = c.in_ok-graph.ensures.plain in
    let test = c.has_precedences-may_decide.ensures in
    let not : HasNoPrecedences grm → c.has_precedences-may_decide.result ≡ false = decides_not grm c.has_precedences-may_decide.result test in
    let left = c.in_ok-cells.cells.left in
    let resolved = c.in_ok-cells.cells.resolved in
    let all_left : HasNoPrecedences grm → left.items ≡ c.in_ok-conflicts.conflicts.items = λ is. cells.all_left (not is) ∙ c.as_slice-listed.ensures.value in
    record {
      grammar = c.in_ok-grm.ensures.made;
      graph = h;
      of_grammar = built.merged.graph;
      table = built.table;
      contested = built.reductions;
      kept = kept;
      states = c.in_ok-graph.ensures.states ∙ built.table.action_grid.rows;
      conflicts = c.in_ok-conflicts.ensures;
      without = nothing_found _ graph c.in_ok-graph.table (HasNoPrecedences grm) c.in_ok-graph.ensures.without plain c.in_ok-conflicts.ensures
          all_left (λ is. cells.none_resolved (not is));
      left_listed = λ is. all_are_left (lists_of c.in_ok-graph.table) _ _ c.in_ok-conflicts.ensures (all_left is);
      left = λ some. of_kept graph c.as_ref.result h (HasNoPrecedences grm) (λ k. AreLeft grm k (map told left.items))
          c.as_ref.ensures.value kept plain some (cells.left (decides grm c.has_precedences-may_decide.result test some));
      resolved = resolved_either grm h resolved.items c.has_precedences-may_decide.result test cells.none_resolved
          (λ decided. of_kept graph c.as_ref.result h (HasNoPrecedences grm) (λ k. AreResolved grm k (map resolution resolved.items))
          c.as_ref.ensures.value kept plain (some_if_true grm c.has_precedences-may_decide.result test decided) (cells.resolved decided));
      unreduced = λ some. of_kept graph c.as_ref.result h (HasNoPrecedences grm × (c.in_ok-conflicts.conflicts.items ≡ []))
          (λ k. AreNeverReduced grm k c.in_ok-cells.cells.unreduced.items) c.as_ref.ensures.value kept
          (none_both graph c.in_ok-graph.table (HasNoPrecedences grm) c.in_ok-conflicts.conflicts.items plain c.in_ok-graph.ensures.without c.in_ok-conflicts.ensures) some
          (given_some c.as_ref.result _ _ cells.unreduced
          (λ no none. some (plain_if_false grm c.has_precedences-may_decide.result test no, sym c.as_slice-listed.ensures.value ∙ none)));
      plain = λ is. cells.plain (not is.0) (c.as_slice-listed.ensures.value ∙ is.1);
      unambiguous = c.is_unambiguous-is_unambiguous.ensures.proved;
      known = c.is_unambiguous-is_unambiguous.ensures.told;
    }

-- the parts are refused
pub returns-in_err-grm-clause-refused : goal.returns-in_err-grm-clause-refused
returns-in_err-grm-clause-refused c =
    let max = 2 ^ 32 - 1 in
    let file = c.args.file.now in
    let b = c.args.has_precedences in
    let e = c.in_err-grm.field-0.0 in
    error_passed (IsNothingFound max file b) _ (parts_error e) c.from_residual.ensures.1 (by_parts max file b e c.in_err-grm.ensures.refused)

-- there is no graph with a table
pub returns-in_err-graph-clause-refused : goal.returns-in_err-graph-clause-refused
returns-in_err-graph-clause-refused c =
    let max = 2 ^ 32 - 1 in
    let file = c.args.file.now in
    let b = c.args.has_precedences in
    let e = c.in_err-graph.field-0.0 in
    error_passed (IsNothingFound max file b) _ (build_error e) c.from_residual-in_err-graph.ensures.1
    (by_build max file b c.in_ok-grm.grm e c.in_ok-grm.ensures.made c.in_err-graph.ensures.refused)
