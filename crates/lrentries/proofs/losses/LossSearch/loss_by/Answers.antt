use Rattle.std.proofs.Common.{refl}
use Rattle.lrtree.specs.StoredTrees.{tree_of}
use Rattle.lrlosses.specs.StoredLosses.{place_of}
use Rattle.lrgrammar.specs.Symbols.{number_of}
use Rattle.lrentries.proofs.losses.LossSearch.loss_by.Goals as goal

pub returns : goal.returns
returns c =
    let known = c.in_ok-loss.ensures in
    let loss = c.in-Some.loss in
    rw (← c.self.view_is) (record {
      lost = record {
        lost = rw c.in_ok-numbers_of.ensures ((rw c.in-Some.is at known.lost) refl);
        tree = tree_of number_of loss.tree;
        of_text = rw c.in_ok-numbers_of.ensures (rw c.in-Some.is at known.sentence);
        steps = rw c.in_ok-steps_of.ensures (rw c.in-Some.is at known.moves);
        parting = place_of number_of loss.parting;
        parts = rw (c.in_ok-numbers_of.ensures, c.step_of.ensures) (rw c.in-Some.is at known.parts);
        state = c.is_at.ensures.state c.if-not-is_at.false;
        token = c.is_at.ensures.token c.if-not-is_at.false;
        made = refl;
        dot = refl;
        rejected = place_of number_of loss.rejected;
        stops = rw c.in_ok-numbers_of.ensures (rw c.in-Some.is at known.stops);
        stop = refl;
      };
      stops = record {
        rejected = place_of number_of loss.rejected;
        stops = rw c.in_ok-numbers_of.ensures (rw c.in-Some.is at known.stops);
        stop = refl;
        no_shift = rw (← c.self.view_is) at (c.has_shift.ensures c.if-has_shift.false);
      };
      apart = rw (← c.self.view_is) at (c.is_uncrowded.ensures c.if-not-is_uncrowded.false);
    })
