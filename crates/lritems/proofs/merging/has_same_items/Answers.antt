use Rattle.std.proofs.Common.{◌≡◌, ◌+◌, ◌<◌, ◌≤◌, ◌∙◌, ◌∷◌, ◌↔◌, sym, ap, refl, length, drop, arith}
use Rattle.std.specs.Prelude.{IsTrue, false}
use Rattle.std.proofs.lemmas.List.{length-map}
use Rattle.lritems.specs.Gotos.{items_in, listed_in}
use Rattle.lritems.specs.Merging.{HaveSameKeys}
use Rattle.lritems.proofs.GotoItems.{item_shown, items_shown, left_shown, none_left, numbers_from_denied, numbers_apart}
use Rattle.lritems.proofs.SameKeys.{keys_turn, keys_apart, no_from, same_length}
use Rattle.lritems.proofs.merging.has_same_items.Given as given
use Rattle.lritems.proofs.merging.has_same_items.Goals as goal
use Rattle.lritems.proofs.merging.has_same_items.Goals.{After-has_len, After-item}

-- both are equally long
equal : (g : given.Over) (c : After-has_len g) → IsTrue c.has_len.result → length (listed_in c.args.b.now) ≡ length c.a.inside.items.items
equal g c h = c.has_len.ensures.0 h ∙ c.len.ensures ∙ c.a.inside.items.ok.0

pub returns-then-not-has_len-clause-same : goal.returns-then-not-has_len-clause-same
returns-then-not-has_len-clause-same g c =
    let mine = c.a.inside.items in
    let its = listed_in c.args.b.now in
    no_from _
    (λ k.
    let long : length mine.items ≡ length its =
    sym (length-map mine.items _) ∙ ap length c.a.view_is ∙ same_length c.args.a.now (items_in g.T.IndexStorage.number c.args.b.now) k ∙ length-map its _ in
    let h : IsTrue c.has_len.result = c.has_len.ensures.1 (sym long ∙ sym (c.len.ensures ∙ mine.ok.0)) in
    let n : false ≡ c.has_len.result = sym c.if-not-has_len.true in
    cc)

pub returns-then-not-has_len-clause-upwards : goal.returns-then-not-has_len-clause-upwards
returns-then-not-has_len-clause-upwards g c = rw c.a.view_is at c.a.invariant

pub returns-then-ne-clause-upwards : goal.returns-then-ne-clause-upwards
returns-then-ne-clause-upwards g c = rw c.a.view_is at c.a.invariant

-- what is left of both begins with the items that are compared
left : (g : given.Over) (c : After-item g) → length (listed_in c.args.b.now) ≡ length c.a.inside.items.items
    → HaveSameKeys c.args.a.now (items_in g.T.IndexStorage.number c.args.b.now)
    ↔ HaveSameKeys
    (item_shown g.T.IndexStorage.number (λ v. v) c.index.result.now
    ∷ items_shown g.T.IndexStorage.number (λ v. v) (drop (c.loop-k.k + 1) c.a.inside.items.items))
    (item_shown g.T.IndexStorage.number (λ r. r.now) c.item.result.now
    ∷ items_shown g.T.IndexStorage.number (λ r. r.now) (drop (c.loop-k.k + 1) (listed_in c.args.b.now)))
left g c long =
    let number = g.T.IndexStorage.number in
    let mine = c.a.inside.items in
    let its = listed_in c.args.b.now in
    let below : c.loop-k.k < length mine.items = omega (arith, mine.ok.0) in
    let its_below : c.loop-k.k < length its = omega (arith, below, long) in
    let one = left_shown number (λ v. v) mine.items c.loop-k.k c.index.result.now below c.index.ensures in
    let other = left_shown number (λ r. r.now) its c.loop-k.k c.item.result.now its_below c.item.ensures in
    rw (one, other) at c.loop-k.invariant

pub item-requires : goal.item-requires
item-requires g c =
    let long = equal g (goal.at.item-requires g c).After-has_len c.if-not-has_len.false in
    omega (arith, long, c.a.inside.items.ok.0)

pub loop-k-preserved : goal.loop-k-preserved
loop-k-preserved g c =
    let number = g.T.IndexStorage.number in
    keys_turn _ (item_shown number (λ v. v) c.index.result.now) (item_shown number (λ r. r.now) c.item.result.now) _ _
    (numbers_from_denied number g.T.PartialEq.eq g.met.T.IndexStorage.same c.index.result.now.0 c.item.result.now.0 c.if-ne.ensures)
    (left g (goal.at.loop-k-preserved g c).After-item (equal g (goal.at.loop-k-preserved g c).After-has_len c.if-not-has_len.false))

pub returns-then-ne-clause-same : goal.returns-then-ne-clause-same
returns-then-ne-clause-same g c =
    let number = g.T.IndexStorage.number in
    keys_apart _ (item_shown number (λ v. v) c.index.result.now) (item_shown number (λ r. r.now) c.item.result.now) _ _
    (numbers_apart number g.T.PartialEq.eq g.met.T.IndexStorage.same c.index.result.now.0 c.item.result.now.0 c.if-ne.ensures)
    (left g (goal.at.returns-then-ne-clause-same g c).After-item (equal g (goal.at.returns-then-ne-clause-same g c).After-has_len c.if-not-has_len.false))

pub returns-clause-same : goal.returns-clause-same
returns-clause-same g c =
    let number = g.T.IndexStorage.number in
    let mine = c.a.inside.items in
    let its = listed_in c.args.b.now in
    let end : length mine.items ≤ c.loop-k.k = omega (arith, mine.ok.0) in
    let its_end : length its ≤ c.loop-k.k = omega (arith, end, equal g (goal.at.returns-clause-same g c).After-has_len c.if-not-has_len.false) in
    let same : HaveSameKeys c.args.a.now (items_in number c.args.b.now) =
    c.loop-k.invariant.1 (rw (none_left number (λ v. v) mine.items c.loop-k.k end, none_left number (λ r. r.now) its c.loop-k.k its_end) refl) in
    (λ _. same, λ _. refl)

pub returns-clause-upwards : goal.returns-clause-upwards
returns-clause-upwards g c = rw c.a.view_is at c.a.invariant
