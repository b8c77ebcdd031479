use Rattle.std.proofs.Common.{ℕ, Bool, List, refl}
use Rattle.lritems.proofs.GotoItems.{found_shown, left_shown, none_left, pushed_shown}
use Rattle.lrpager.proofs.KeptStates.{complete_by_test, incomplete_by_test, complete_turn, passed_turn, all_passed}
use Rattle.lrpager.proofs.pager.collecting.complete_items.Goals as goal
use Rattle.lrpager.proofs.pager.collecting.complete_items.Goals.{then-eq+in_ok-push, else-eq}

pub loop-key-init : goal.loop-key-init
loop-key-init g c = rw c.new-complete.ensures.items refl

pub prod_len-requires : goal.prod_len-requires
prod_len-requires g c =
    let found = found_shown g.T.IndexStorage.number (λ r. r.now) c.args.items.now c.loop-key.key-index c.loop-key-item.result c.requires.upwards c.loop-key-test.true c.loop-key-item.is in
    (c.requires.fits _ _ _ found).production

pub loop-key-preserved : goal.loop-key-preserved
loop-key-preserved g c =
    let number = g.T.IndexStorage.number in
    let grm = c.args.grm.now in
    let e = c.loop-key-item.result in
    let item : (ℕ × ℕ) × List Bool = ((number e.0.0.0, number e.0.1.0), e.1.now) in
    let left = left_shown number (λ r. r.now) c.args.items.now c.loop-key.key-index e c.loop-key-test.true c.loop-key-item.is in
    let before = rw left at c.loop-key.invariant in
    let same = g.met.T.IndexStorage.same e.0.1.0 c.prod_len.result.0 in
    elim c.if-eq.branch [
      | then-eq+in_ok-push w ↦
          let pushed = pushed_shown number (λ r. r.now) c.loop-key.complete.items w.push.new.self.items e.0 e.1 w.in_ok-push.ensures.items in
          rw w.complete-is (complete_turn grm _ _ _ _ item (complete_by_test grm item _ _ same w.if-eq.ensures c.prod_len.ensures) pushed before)
      | else-eq w ↦
          rw w.complete-is (passed_turn grm _ _ _ item (incomplete_by_test grm item _ _ same w.if-eq.ensures c.prod_len.ensures) before)
    ]

pub returns : goal.returns
returns g c =
    all_passed c.args.grm.now _ _ _
    (none_left g.T.IndexStorage.number (λ r. r.now) c.args.items.now c.loop-key.key-index c.loop-key-test.false) c.loop-key.invariant
