use Rattle.std.proofs.Common.{◌≡◌, ◌∙◌, true, false, refl, sym}
use Rattle.lrgrammar.specs.Symbols.{number_of}
use Rattle.lrreport.proofs.ItemsBefore.{all_before, item_of, none_before, one_before, stands}
use Rattle.lrreport.proofs.told.Told.items_before.Goals as goal

pub loop-key-init : goal.loop-key-init
loop-key-init c = rw (c.new-items.ensures.items, c.into_iter-key-iterator.ensures.into_iter_gives, c.keys-key-items.ensures.rest) refl

pub loop-key-preserved-in-Continue-1 : goal.loop-key-preserved-in-Continue-1
loop-key-preserved-in-Continue-1 c =
    let file = c.args.self.now.file.now in
    let tokens = c.args.tokens.now in
    let key = c.in-Some.key.now in
    let is : stands number_of file tokens (item_of number_of file tokens key) ≡ true =
    rw (c.from-production.ensures, c.from-dot.ensures) at (sym c.is_before.ensures ∙ c.if-is_before.true) in
    rw (c.in_ok-push.ensures.items, c.from-production.ensures, c.from-dot.ensures)
    (one_before number_of file tokens c.loop-key.items.items _ key c.next.new.self is (rw c.in-Some.ensures.steps at c.loop-key.invariant))

pub loop-key-preserved : goal.loop-key-preserved
loop-key-preserved c =
    let file = c.args.self.now.file.now in
    let tokens = c.args.tokens.now in
    let key = c.in-Some.key.now in
    let is : stands number_of file tokens (item_of number_of file tokens key) ≡ false =
    rw (c.from-production.ensures, c.from-dot.ensures) at (sym c.is_before.ensures ∙ c.if-is_before.false) in
    none_before number_of file tokens c.loop-key.items.items _ key c.next.new.self is (rw c.in-Some.ensures.steps at c.loop-key.invariant)

pub returns : goal.returns
returns c =
    all_before number_of c.args.self.now.file.now c.args.tokens.now c.args.closed.now c.loop-key.items.items
    (rw c.in-None.ensures.steps.0 at c.loop-key.invariant)
