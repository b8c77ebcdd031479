use Rattle.std.proofs.Common.{◌≡◌, ◌+◌, ◌<◌, None, Some, length, false, ◌∙◌, arith}
use Rattle.std.proofs.lemmas.List.{take_all}
use Rattle.lryacc.proofs.UsefulLemmas.{is_some-more}
use Rattle.lryacc.proofs.KeptLemmas.{AreInOrder-numbered, numbered-more, numbered-same}
use Rattle.lryacc.proofs.useful.new_numbers.Goals as goal
use Rattle.lryacc.proofs.useful.new_numbers.Goals.{then-is_kept+in_ok-push, else-is_kept+in_ok-push-2}

pub loop-is_kept-preserved : goal.loop-is_kept-preserved
loop-is_kept-preserved c =
    let below : c.loop-is_kept.is_kept-index < length c.args.kept.now.found.items = omega arith in
    elim c.if-is_kept.branch [
      | then-is_kept+in_ok-push w ↦
          let counts : w.saturating_add-next.result ≡ c.loop-is_kept.next + 1 = omega arith in
          record {
            numbers =
                rw (w.numbers-is, w.next-is, counts)
                (numbered-more c.loop-is_kept.numbers.items w.push.new.self.items c.loop-is_kept.next w.in_ok-push.ensures.items c.loop-is_kept.invariant.numbers);
            rules =
                rw (w.numbers-is)
                (is_some-more c.loop-is_kept.numbers.items w.push.new.self.items (Some c.loop-is_kept.next) c.args.kept.now.found.items c.loop-is_kept.is_kept-index false below w.in_ok-push.ensures.items c.loop-is_kept.invariant.rules (rw (← c.deref-is_kept-items.ensures.value) w.if-is_kept.true));
            counted = omega arith;
          }
      | else-is_kept+in_ok-push-2 w ↦
          record {
            numbers =
                rw (w.numbers-is, w.next-is)
                (numbered-same c.loop-is_kept.numbers.items w.push-else-is_kept.new.self.items c.loop-is_kept.next w.in_ok-push-2.ensures.items c.loop-is_kept.invariant.numbers);
            rules =
                rw (w.numbers-is)
                (is_some-more c.loop-is_kept.numbers.items w.push-else-is_kept.new.self.items None c.args.kept.now.found.items c.loop-is_kept.is_kept-index false below w.in_ok-push-2.ensures.items c.loop-is_kept.invariant.rules (rw (← c.deref-is_kept-items.ensures.value) w.if-is_kept.false));
            counted = omega arith;
          }
    ]

pub returns : goal.returns
returns c = record {
  order = AreInOrder-numbered c.loop-is_kept.numbers.items c.loop-is_kept.next c.loop-is_kept.invariant.numbers;
  rules = c.loop-is_kept.invariant.rules ∙ take_all c.loop-is_kept.is_kept-index c.args.kept.now.found.items (omega arith);
}
