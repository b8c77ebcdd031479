use Rattle.std.proofs.Common.{◌≡◌, ◌+◌, map, take, drop, get_or, arith}
use Rattle.std.proofs.lemmas.List.{drop-drop}
use Rattle.std.proofs.lemmas.List.Elements.{All-push, All-weaker}
use Rattle.std.proofs.lemmas.List.Quantifiers.{all_pairs_push}
use Rattle.lrreport.specs.Causes.{states_of, AreApart, AreOneKind, IsOneCause, IsOneConflict}
use Rattle.lrreport.proofs.OneCause.{one_more}
use Rattle.lrreport.proofs.OneConflict.{AreOthers, apart_from, are_others, is_one_conflict, others_behind, states_are}
use Rattle.lrreport.proofs.conflicts.Checked.split.Goals as goal

pub loop-from-preserved : goal.loop-from-preserved
loop-from-preserved c =
    let checked = c.args.self.now in
    let ms = c.args.meetings.now in
    let i = c.loop-from.from in
    let n = c.in_ok-cause.count in
    let cause = c.in_ok-cause.cause in
    let causes = c.loop-from.causes.items in
    let rest = c.split_at.ensures.back in
    let are : cause.meetings.items ≡ map (λ m. m.evidence) (take n (drop i ms)) = rw rest at c.in_ok-cause.ensures.are in
    let one : AreOneKind (take n (drop i ms)) = rw rest at c.in_ok-cause.ensures.kind in
    let further : drop n (drop i ms) ≡ drop (i + n) ms = drop-drop n i ms in
    record {
      inside = omega (arith, c.in_ok-cause.ensures.inside, c.split_at.ensures.back_len);
      states =
          rw c.in_ok-push.ensures.items
          (one_more states_of causes cause (map (λ m. m.evidence.now) ms) i n (states_are cause ms i n are) c.loop-from.invariant.states);
      alike = rw c.in_ok-push.ensures.items (All-push IsOneCause causes cause c.loop-from.invariant.alike c.in_ok-cause.ensures.alike);
      kind = λ grouped.
          rw c.in_ok-push.ensures.items
          (All-push (IsOneConflict checked) causes cause (c.loop-from.invariant.kind grouped)
          (is_one_conflict checked grouped ms i n c.requires.met c.requires.kinds one cause are));
      apart = λ grouped.
          rw c.in_ok-push.ensures.items
          (all_pairs_push (AreApart checked) causes cause (c.loop-from.invariant.apart grouped)
          (λ k d inside. apart_from checked (get_or causes k d) cause n (drop i ms) are (c.loop-from.invariant.others grouped k d inside)));
      others = λ grouped.
          rw (c.in_ok-push.ensures.items, ← further)
          (All-push (AreOthers checked (drop n (drop i ms))) causes cause
          (All-weaker _ _ (λ old. others_behind checked n (drop i ms) old) causes (c.loop-from.invariant.others grouped))
          (are_others checked grouped ms i n c.requires.met c.requires.kinds one cause are (c.requires.together grouped)
          (rw rest at (c.in_ok-cause.ensures.last grouped))));
    }
