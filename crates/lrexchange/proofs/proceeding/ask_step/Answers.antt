-- over the symbol behind the dot
use Rattle.std.proofs.Common.{ℕ, suc, [], ◌∷◌, ◌++◌, refl, ap}
use Rattle.lrgrammar.specs.Symbols.{symbol_of, number_of}
use Rattle.lrdecided.proofs.CollectedInTurn.{added}
use Rattle.lrexchange.specs.Exchanges.{at}
use Rattle.lrexchange.specs.Positions.{Open, pushed}
use Rattle.lrexchange.specs.StoredPositions.{symbols_of, ours_of, position_of}
use Rattle.lrexchange.proofs.SamePositions.{same_position}
use Rattle.lrexchange.proofs.proceeding.ask_step.Goals as goal

pub returns : goal.returns
returns c = λ t.
    let a = position_of c.args.position.now in
    let item = c.in-Some.item in
    let step = c.in-Some-step_over.step in
    let p = item.0.0 in
    let d = item.1.0 in
    let x = symbol_of number_of step.0 in
    record {
      p = p;
      d = d;
      x = x;
      xs = c.in-Some-step_over.ensures.found.0;
      item = c.in-Some.ensures;
      behind = c.in-Some-step_over.ensures.found.1;
      next = added position_of _ _ _ c.in_ok-push.ensures.items (at (Open p (suc d)) a.state (a.theirs ++ x ∷ []) (pushed a.ours (x ∷ [])))
          (same_position (Open p step.1.0) (Open p (suc d)) a.state a.state (symbols_of c.in_ok-theirs.theirs.items) (a.theirs ++ x ∷ [])
          (ours_of c.in_ok-ours.ours) (pushed a.ours (x ∷ [])) (ap (λ (n : ℕ). Open p n) c.in-Some-step_over.ensures.moved) refl
          (rw c.as_slice.ensures.value at c.in_ok-theirs.ensures) c.in_ok-ours.ensures);
    }
