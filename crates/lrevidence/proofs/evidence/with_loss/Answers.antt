use Rattle.lrshown.specs.declared.evidence.Evidence.{Evidence}
use Rattle.lrevidence.specs.Losses.{IsFoundFor}
use Rattle.lrevidence.proofs.Boxes.{boxed_so}
use Rattle.lrevidence.proofs.FoundLosses.{found_for}
use Rattle.lrevidence.proofs.evidence.with_loss.Goals as goal

pub returns-clause-known : goal.returns-clause-known
returns-clause-known c =
    let losses = c.args.searches.now.losses in
    let told : Evidence = record c.args.before { loss = c.in_ok-boxed.field-0 } in
    record {
      proved = c.requires.proved;
      parts = c.requires.parts;
      lost =
          boxed_so _ (IsFoundFor losses told) _ _ c.in_ok-boxed.ensures
          (found_for losses told _ (rw (c.in_ok-prepare.ensures, c.in-Some.ensures.state, c.in-Some.ensures.token) at c.in_ok-loss.ensures.found)
          (λ both. rw c.in_ok-prepare.ensures at c.in_ok-loss.ensures.doomed));
      decided = c.requires.decided;
    }
