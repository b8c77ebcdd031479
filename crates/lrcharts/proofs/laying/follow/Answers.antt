-- before the first turn
use Rattle.std.proofs.Common.{length, false, ◌∙◌, arith}
use Rattle.std.proofs.lemmas.List.{length-replicate}
use Rattle.lrcharts.proofs.BitsInTurn.{set_within, none_done}
use Rattle.lrcharts.proofs.laying.follow.Goals as goal

pub loop-from-init : goal.loop-from-init
loop-from-init c = record {
  places = rw c.set_all.ensures.after (length-replicate (length c.args.next.now) false ∙ c.requires.next);
  done =
      rw c.into_iter-from-iterator.ensures.into_iter_gives
      (none_done _ _ _ (λ k set. (c.iter_set_bits-from-items.ensures.members k).1
      (omega arith, omega (arith, set_within c.args.ends.now k set, c.len.ensures.number), set)));
}
