use Rattle.std.proofs.Common.{◌≡◌, refl, sym}
use Rattle.lritems.specs.ItemsOf.{items_of}
use Rattle.lritems.specs.Gotos.{items_in}
use Rattle.lritems.proofs.GotoItems.{none_left, none_more, push_turn}
use Rattle.lritems.proofs.cores.Core.from_goto.Goals as goal

pub loop-key-init : goal.loop-key-init
loop-key-init g c =
    let number = g.T.IndexStorage.number in
    rw (c.deref-key-items.ensures.value, c.in_ok-push.ensures.items, c.in_ok-items.ensures.items, sym c.in_ok-clone.ensures.cases) refl

pub loop-key-preserved : goal.loop-key-preserved
loop-key-preserved g c =
    push_turn g.T.IndexStorage.number (λ r. r.now) c.loop-key.items.items c.push-in-loop-key.new.self.items c.deref-key-items.result.now c.loop-key.key-index c.loop-key-item.result
    c.in_ok-clone-2.field-0 _ c.loop-key-test.true c.loop-key-item.is (sym c.in_ok-clone-2.ensures.cases) c.in_ok-push-2.ensures.items
    c.loop-key.invariant

pub invariant_of-result : goal.invariant_of-result
invariant_of-result g c =
    let number = g.T.IndexStorage.number in
    let none = none_left number (λ r. r.now) c.deref-key-items.result.now c.loop-key.key-index c.loop-key-test.false in
    let whole : items_of number c.loop-key.items.items ≡ items_in number c.args.goto.now = none_more _ _ _ none c.loop-key.invariant in
    rw whole c.requires

pub returns : goal.returns
returns g c =
    let none = none_left g.T.IndexStorage.number (λ r. r.now) c.deref-key-items.result.now c.loop-key.key-index c.loop-key-test.false in
    none_more _ _ _ none c.loop-key.invariant
