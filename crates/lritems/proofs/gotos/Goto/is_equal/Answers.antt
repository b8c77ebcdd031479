use Rattle.std.proofs.Common.{◌≡◌, ◌<◌, ◌≤◌, ◌∙◌, sym, ap, refl, length, arith}
use Rattle.std.specs.Prelude.{IsTrue, false}
use Rattle.lrspec.specs.grammars.ItemSets.{item_at, AreUpwards}
use Rattle.lritems.specs.Gotos.{items_in, listed_in}
use Rattle.lritems.proofs.GotoItems.{apart_from_other, left_shown, none_left, other_length, other_turn, same_turn}
use Rattle.lritems.proofs.gotos.Goto.is_equal.Given as given
use Rattle.lritems.proofs.gotos.Goto.is_equal.Goals as goal
use Rattle.lritems.proofs.gotos.Goto.is_equal.Goals.{After-has_len}

pub returns-then-not-has_len : goal.returns-then-not-has_len
returns-then-not-has_len g c =
    let number = g.T.IndexStorage.number in
    let its : c.len.result ≡ length c.core.inside.items.items = c.len.ensures ∙ c.core.inside.items.ok.0 in
    let up : AreUpwards c.args.core.now = rw c.core.view_is at c.core.invariant in
    apart_from_other c.args.core.now (items_in number c.args.self.now) up c.requires
    (λ e. other_length number (λ r. r.now) c.core.inside.items.items (listed_in c.args.self.now)
    (λ l. let h : IsTrue c.has_len.result = c.has_len.ensures.1 (l ∙ sym its) in let n : false ≡ c.has_len.result = sym c.if-not-has_len.true in cc) (c.core.view_is ∙ e))

-- both are equally long
long : (g : given.Over) (c : After-has_len g) → IsTrue c.has_len.result → length (listed_in c.args.self.now) ≡ length c.core.inside.items.items
long g c h = c.has_len.ensures.0 h ∙ c.len.ensures ∙ c.core.inside.items.ok.0

pub returns-then-not-is_same_item : goal.returns-then-not-is_same_item
returns-then-not-is_same_item g c =
    let number = g.T.IndexStorage.number in
    let all = long g (goal.at.returns-then-not-is_same_item g c).After-has_len c.if-not-has_len.false in
    let its_below : c.loop-k.k < length c.core.inside.items.items = omega (arith, c.core.inside.items.ok.0) in
    let below : c.loop-k.k < length (listed_in c.args.self.now) = omega (arith, all, its_below) in
    let left = left_shown number (λ r. r.now) (listed_in c.args.self.now) c.loop-k.k c.item.result.now below c.item.ensures in
    let its_left = left_shown number (λ v. v) c.core.inside.items.items c.loop-k.k c.index.result.now its_below c.index.ensures in
    let up : AreUpwards c.args.core.now = rw c.core.view_is at c.core.invariant in
    apart_from_other c.args.core.now (items_in number c.args.self.now) up c.requires
    (other_turn _ _ _ _ _ _ (λ e. let h : IsTrue false = c.if-not-is_same_item.ensures.1 e in cc) (rw (left, its_left) at c.loop-k.invariant))

pub item-requires : goal.item-requires
item-requires g c =
    let all = long g (goal.at.item-requires g c).After-has_len c.if-not-has_len.false in
    omega (arith, all, c.core.inside.items.ok.0)

pub loop-k-preserved : goal.loop-k-preserved
loop-k-preserved g c =
    let number = g.T.IndexStorage.number in
    let all = long g (goal.at.loop-k-preserved g c).After-has_len c.if-not-has_len.false in
    let its_below : c.loop-k.k < length c.core.inside.items.items = omega (arith, c.core.inside.items.ok.0) in
    let below : c.loop-k.k < length (listed_in c.args.self.now) = omega (arith, all, its_below) in
    let left = left_shown number (λ r. r.now) (listed_in c.args.self.now) c.loop-k.k c.item.result.now below c.item.ensures in
    let its_left = left_shown number (λ v. v) c.core.inside.items.items c.loop-k.k c.index.result.now its_below c.index.ensures in
    same_turn _ _ _ _ _ (c.if-not-is_same_item.ensures.0 refl) (rw (left, its_left) at c.loop-k.invariant)

pub returns : goal.returns
returns g c =
    let number = g.T.IndexStorage.number in
    let mine = listed_in c.args.self.now in
    let its = c.core.inside.items in
    let all = long g (goal.at.returns g c).After-has_len c.if-not-has_len.false in
    let its_end : length its.items ≤ c.loop-k.k = omega (arith, its.ok.0) in
    let end : length mine ≤ c.loop-k.k = omega (arith, all, its_end) in
    let same : c.args.core.now ≡ items_in number c.args.self.now =
    c.loop-k.invariant.1 (none_left number (λ v. v) its.items c.loop-k.k its_end ∙ sym (none_left number (λ r. r.now) mine c.loop-k.k end)) in
    (λ _ p d. ap (λ a. item_at a p d) same, λ _. refl)
