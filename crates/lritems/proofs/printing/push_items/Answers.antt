use Rattle.std.proofs.Common.{◌≡◌, ℕ, Bool, List, rules, ap, refl, ◌++◌}
use Rattle.std.specs.String.{string_bytes}
use Rattle.lrspec.specs.texts.PrintedTexts.{item_text}
use Rattle.lritems.specs.ItemsOf.{items_of}
use Rattle.lrclosing.proofs.WalksOverItems.{found_all}
use Rattle.lritems.proofs.ItemsUpwards.{upwards_from_sorted}
use Rattle.lritems.proofs.JoinedTexts.{left_at_first, joined_turn}
use Rattle.lritems.proofs.printing.push_items.Goals as goal

pub loop-key-init : goal.loop-key-init
loop-key-init g c =
    let number = g.T.IndexStorage.number in
    let i = c.into_iter-key-iterator.ensures.into_iter_gives in
    let es = c.args.items.now.items.entries in (
      search rules,
      rw i.0 (found_all number g.T.Ord.cmp g.met.T.IndexStorage.ordered es es i.6),
      rw i.0 (ap (λ t. string_bytes c.args.text.now ++ t) (left_at_first (item_text c.args.grm.now) c.args.parting.now (items_of number es))),
    )

pub push_item-requires : goal.push_item-requires
push_item-requires g c =
    let found = rw c.in-Some.ensures.steps at c.loop-key.invariant.1 in
    c.requires _ _ c.in-Some.ctx.now found.0

pub loop-key-preserved : goal.loop-key-preserved
loop-key-preserved g c =
    let found = rw c.in-Some.ensures.steps at c.loop-key.invariant.1 in
    let text = rw c.in-Some.ensures.steps at c.loop-key.invariant.2 in
    let number = g.T.IndexStorage.number in
    let f = item_text c.args.grm.now in
    let item : (ℕ × ℕ) × List Bool = ((number c.in-Some.key.now.0.0, number c.in-Some.key.now.1.0), c.in-Some.ctx.now) in
    let new : string_bytes c.push_item.new.text ≡ (string_bytes c.loop-key.text ++ c.loop-key.between.now) ++ f item = rw (c.in_ok-push_item.ensures, c.in_ok-push_str.ensures.bytes) refl in
    (search rules, found.1, joined_turn f c.args.parting.now _ _ _ _ item (items_of number c.next.new.self) text new)

pub returns-in_err-push_str-clause-upwards : goal.returns-in_err-push_str-clause-upwards
returns-in_err-push_str-clause-upwards g c =
    upwards_from_sorted g.T.IndexStorage.number g.T.Ord.cmp g.met.T.IndexStorage.ordered c.args.items.now.items.entries c.into_iter-key-iterator.ensures.into_iter_gives.5

pub returns-in_err-push_item-clause-upwards : goal.returns-in_err-push_item-clause-upwards
returns-in_err-push_item-clause-upwards g c =
    upwards_from_sorted g.T.IndexStorage.number g.T.Ord.cmp g.met.T.IndexStorage.ordered c.args.items.now.items.entries c.into_iter-key-iterator.ensures.into_iter_gives.5

pub returns-clause-upwards : goal.returns-clause-upwards
returns-clause-upwards g c =
    upwards_from_sorted g.T.IndexStorage.number g.T.Ord.cmp g.met.T.IndexStorage.ordered c.args.items.now.items.entries c.into_iter-key-iterator.ensures.into_iter_gives.5
