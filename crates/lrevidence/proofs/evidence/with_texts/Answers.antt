use Rattle.std.proofs.Common.{sym, ◌∙◌}
use Rattle.lrevidence.specs.Ambiguities.{HasTwoTrees, PartsAt}
use Rattle.lrevidence.specs.Losses.{IsFoundFor}
use Rattle.lrevidence.proofs.Boxes.{boxed_so}
use Rattle.lrevidence.proofs.FoundLosses.{found_for, has_image, told_found, told_doomed}
use Rattle.lrevidence.proofs.evidence.with_texts.Goals as goal

pub returns-clause-known : goal.returns-clause-known
returns-clause-known c =
    let reasons = c.args.searches.now.reasons in
    let losses = c.args.searches.now.losses in
    let found = rw (c.requires.state, c.requires.token) at c.in_ok-shown.ensures.lost in
    record {
      proved = boxed_so _ (HasTwoTrees reasons.grammar) _ _ c.in_ok-boxed.ensures c.in_ok-shown.ensures.trees;
      parts =
          boxed_so _ (PartsAt reasons.grammar reasons.graph c.args.before.entry.state c.args.before.entry.token) _ _
          c.in_ok-boxed.ensures (rw (c.requires.state, c.requires.token) at c.in_ok-shown.ensures.parts);
      lost =
          boxed_so _ (IsFoundFor losses _) _ _ c.in_ok-boxed-2.ensures
          (found_for losses _ _ (told_found losses _ c.args.before.entry.state c.args.before.entry.token _ _ found c.in_ok-loss.ensures)
          (λ both. told_doomed losses _ (sym c.is_none-is_open.ensures ∙ has_image _ _ _ c.in_ok-boxed.ensures both) _ _ c.in_ok-loss.ensures));
      decided = c.in_ok-decided.ensures;
    }
