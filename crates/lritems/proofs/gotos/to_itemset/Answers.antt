use Rattle.std.proofs.Common.{refl, sym, ◌∙◌}
use Rattle.lritems.proofs.GotoItems.{push_turn, none_left, none_more}
use Rattle.lritems.proofs.ListedMaps.{all_yielded, items_of_map}
use Rattle.lritems.proofs.gotos.to_itemset.Goals as goal

pub loop-key-init : goal.loop-key-init
loop-key-init g c = rw c.in_ok-pairs.ensures.items refl

pub loop-key-preserved : goal.loop-key-preserved
loop-key-preserved g c =
    push_turn g.T.IndexStorage.number (λ r. r.now) c.loop-key.pairs.items c.push.new.self.items c.args.items.now c.loop-key.key-index c.loop-key-item.result c.in_ok-clone.field-0 _
    c.loop-key-test.true c.loop-key-item.is (sym c.in_ok-clone.ensures.cases) c.in_ok-push.ensures.items c.loop-key.invariant

pub returns : goal.returns
returns g c =
    let number = g.T.IndexStorage.number in
    let pairs = c.loop-key.pairs in
    let same = none_more _ _ _ (none_left number (λ r. r.now) c.args.items.now c.loop-key.key-index c.loop-key-test.false) c.loop-key.invariant in
    let ran = c.in_ok-from_iter.ensures.ran in
    let end = ran.3.2 tt in
    let all = all_yielded pairs.items ran.1 ran.0 ran.3.0 end.0 ran.2.0 (ran.2.1 ∙ pairs.ok.0) ran.3.1 end.1 in
    items_of_map number g.T.Ord.cmp g.met.T.IndexStorage.ordered g.met.T.IndexStorage.injective g.met.T.Ord.total pairs.items c.in_ok-from_iter.field-0
    (rw same c.requires) (rw all at ran.4)
    ∙ same
