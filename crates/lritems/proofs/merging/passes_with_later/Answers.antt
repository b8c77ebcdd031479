use Rattle.std.proofs.Common.{◌<◌, ◌≤◌, ◌∙◌, ℕ, sym, arith, length, below_more}
use Rattle.lritems.specs.Gotos.{items_in, listed_in}
use Rattle.lritems.specs.Merging.{PassAt}
use Rattle.lritems.proofs.ComparedPlaces.{AreCompared, AreRead, AreOthers, items_long, others_long, are_read, are_others}
use Rattle.lritems.proofs.PassingPairs.{all_passed, clash_here, passed_turn, passes_here, passes_sharing}
use Rattle.lritems.proofs.merging.passes_with_later.Given as given
use Rattle.lritems.proofs.merging.passes_with_later.Goals as goal
use Rattle.lritems.proofs.merging.passes_with_later.Goals.{After-a, After-index-in-loop-j, After-item-in-loop-j}

-- the core and the goto have the same items upwards
both : (g : given.Over) (c : After-a g) → AreCompared g.T.IndexStorage.number (λ r. r.now) c.a.inside.items.items (listed_in c.args.b.now) c.args.a.now
both g c = record { is = c.a.view_is; upwards = c.a.invariant; other_upwards = c.requires.upwards; keys = c.requires.items }

-- the two items of a turn, in the core
read : (g : given.Over) (c : After-index-in-loop-j g)
    → AreCompared g.T.IndexStorage.number (λ r. r.now) c.a.inside.items.items (listed_in c.args.b.now) c.args.a.now
    → AreRead g.T.IndexStorage.number c.args.a.now c.args.place c.loop-j.j c.index.result.now c.index-in-loop-j.result.now
read g c h =
    are_read h c.args.place c.loop-j.j c.index.result.now c.index-in-loop-j.result.now c.requires.place (omega (arith, items_long h, c.a.inside.items.ok.0))
    c.index.ensures c.index-in-loop-j.ensures

-- and in the goto
others : (g : given.Over) (c : After-item-in-loop-j g)
    → AreCompared g.T.IndexStorage.number (λ r. r.now) c.a.inside.items.items (listed_in c.args.b.now) c.args.a.now
    → AreOthers g.T.IndexStorage.number (items_in g.T.IndexStorage.number c.args.b.now) c.index.result.now.0 c.index-in-loop-j.result.now.0
    c.item.result.now.1.now c.item-in-loop-j.result.now.1.now
others g c h =
    are_others h c.args.place c.loop-j.j c.index.result.now c.index-in-loop-j.result.now c.requires.place (omega (arith, items_long h, c.a.inside.items.ok.0))
    c.index.ensures c.index-in-loop-j.ensures c.item.result.now c.item-in-loop-j.result.now c.item.ensures c.item-in-loop-j.ensures

pub intersects-requires : goal.intersects-requires
intersects-requires g c =
    let at = goal.at.intersects-requires g c in
    let r = read g at.After-index-in-loop-j (both g at.After-a) in
    c.requires.bits.1 _ _ _ r.later ∙ sym (c.requires.bits.1 _ _ _ r.mine)

pub item-requires : goal.item-requires
item-requires g c =
    let h = both g (goal.at.item-requires g c).After-a in
    omega (arith, others_long h, c.requires.place)

pub item-requires-in-loop-j : goal.item-requires-in-loop-j
item-requires-in-loop-j g c =
    let h = both g (goal.at.item-requires-in-loop-j g c).After-a in
    omega (arith, items_long h, others_long h, c.a.inside.items.ok.0)

pub pair_passes-requires : goal.pair_passes-requires
pair_passes-requires g c =
    let at = goal.at.pair_passes-requires g c in
    let r = read g at.After-index-in-loop-j (both g at.After-a) in
    let o = others g at.After-item-in-loop-j (both g at.After-a) in
    let size = sym (c.requires.bits.1 _ _ _ r.mine) in
    record {
      first = c.requires.bits.1 _ _ _ r.later ∙ size;
      second = c.requires.bits.2 _ _ _ o.its ∙ size;
      third = c.requires.bits.2 _ _ _ o.later ∙ size;
    }

pub loop-j-preserved-then-intersects : goal.loop-j-preserved-then-intersects
loop-j-preserved-then-intersects g c =
    let at = goal.at.loop-j-preserved-then-intersects g c in
    let a = c.args.a.now in
    let b = items_in g.T.IndexStorage.number c.args.b.now in
    let r = read g at.After-index-in-loop-j (both g at.After-a) in
    below_more (λ (k : ℕ). c.args.place < k → PassAt a b c.args.place k) c.loop-j.j c.loop-j.invariant
    (λ _. passed_turn a b c.args.place c.loop-j.j _ _ r.here r.there (passes_sharing a b _ _ _ _ _ _ r.mine r.later (c.intersects.ensures.shared.0 c.if-intersects.true)))

pub returns-then-not-pair_passes-clause-yes : goal.returns-then-not-pair_passes-clause-yes
returns-then-not-pair_passes-clause-yes g c = λ h. cc

pub returns-then-not-pair_passes-clause-no : goal.returns-then-not-pair_passes-clause-no
returns-then-not-pair_passes-clause-no g c = λ _.
    let at = goal.at.returns-then-not-pair_passes-clause-no g c in
    let r = read g at.After-index-in-loop-j (both g at.After-a) in
    let o = others g at.After-item-in-loop-j (both g at.After-a) in
    clash_here c.args.a.now (items_in g.T.IndexStorage.number c.args.b.now) _ _ _ _ _ _ _ _ r.mine r.later o.its o.later (c.pair_passes.ensures.no c.if-not-pair_passes.true)

pub loop-j-preserved : goal.loop-j-preserved
loop-j-preserved g c =
    let at = goal.at.loop-j-preserved g c in
    let a = c.args.a.now in
    let b = items_in g.T.IndexStorage.number c.args.b.now in
    let r = read g at.After-index-in-loop-j (both g at.After-a) in
    let o = others g at.After-item-in-loop-j (both g at.After-a) in
    below_more (λ (k : ℕ). c.args.place < k → PassAt a b c.args.place k) c.loop-j.j c.loop-j.invariant
    (λ _. passed_turn a b c.args.place c.loop-j.j _ _ r.here r.there
    (passes_here a b _ _ _ _ _ _ _ _ r.mine r.later o.its o.later (c.pair_passes.ensures.yes c.if-not-pair_passes.false)))

pub returns-clause-yes : goal.returns-clause-yes
returns-clause-yes g c = λ _.
    let h = both g (goal.at.returns-clause-yes g c).After-a in
    let end : length c.args.a.now ≤ c.loop-j.j = omega (arith, items_long h, c.a.inside.items.ok.0) in
    all_passed c.args.a.now (items_in g.T.IndexStorage.number c.args.b.now) c.args.place c.loop-j.j end c.loop-j.invariant
