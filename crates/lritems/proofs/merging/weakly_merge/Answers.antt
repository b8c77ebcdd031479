use Rattle.std.proofs.Common.{ℕ, Bool, List, ◌<◌, ◌≤◌, ◌∙◌, arith, length}
use Rattle.lrspec.specs.grammars.ItemSets.{AreUpwards}
use Rattle.lrbits.specs.Bits.{union}
use Rattle.lritems.specs.Gotos.{items_in, listed_in}
use Rattle.lritems.proofs.GotoItems.{left_shown, none_left}
use Rattle.lritems.proofs.ItemsByPlace.{equally_long, shown_at, item_at_place, set_keys}
use Rattle.lritems.proofs.MergingUnderway.{begin_merging, end_merging, fits_of_merging, there_to_merge, turn_merged}
use Rattle.lritems.proofs.SameKeys.{keys_from_same, upwards_from_keys}
use Rattle.lritems.proofs.merging.weakly_merge.Goals as goal

pub loop-k-init : goal.loop-k-init
loop-k-init g c =
    let a = c.args.core.now in
    let b = items_in g.T.IndexStorage.number c.args.other.now in
    let up : AreUpwards a = rw c.core.view_is at c.core.invariant in
    record {
      keys = keys_from_same b a c.requires.upwards up (λ p d. ((c.requires.items p d).1, (c.requires.items p d).0));
      merging = (c.requires.bits.0, c.requires.bits.1, c.requires.bits.2, begin_merging c.requires.bits.0 a b c.requires.bits.1);
    }

pub item-requires : goal.item-requires
item-requires g c =
    let long = equally_long g.T.IndexStorage.number (λ r. r.now) c.core.inside.items.items (listed_in c.args.other.now) _ c.core.view_is c.core.invariant c.requires.upwards c.requires.items in
    omega (arith, long, c.core.inside.items.ok.0)

pub merge_at-changed-requires : goal.merge_at-changed-requires
merge_at-changed-requires g c =
    let number = g.T.IndexStorage.number in
    let i = c.loop-k.invariant in
    let all = (listed_in c.args.other.now) in
    let long = equally_long number (λ r. r.now) c.core.inside.items.items all _ c.core.view_is c.core.invariant c.requires.upwards c.requires.items in
    let below : c.loop-k.k < length all = omega (arith, long, c.core.inside.items.ok.0) in
    let stands = shown_at number (λ r. r.now) all c.loop-k.k c.item.result.now below c.item.ensures in
    let there = there_to_merge i.merging.0 c.loop-k.k _ _ _ _ _ _ i.merging.2 i.merging.3 c.requires.upwards i.keys stands in
    rw there.1 there.2

pub loop-k-preserved : goal.loop-k-preserved
loop-k-preserved g c =
    let number = g.T.IndexStorage.number in
    let i = c.loop-k.invariant in
    let all = (listed_in c.args.other.now) in
    let b = items_in number c.args.other.now in
    let long = equally_long number (λ r. r.now) c.core.inside.items.items all _ c.core.view_is c.core.invariant c.requires.upwards c.requires.items in
    let below : c.loop-k.k < length all = omega (arith, long, c.core.inside.items.ok.0) in
    let f : (ℕ × ℕ) × List Bool = ((number c.item.result.now.0.0.0, number c.item.result.now.0.1.0), c.item.result.now.1.now) in
    let stands = shown_at number (λ r. r.now) all c.loop-k.k c.item.result.now below c.item.ensures in
    let left = left_shown number (λ r. r.now) all c.loop-k.k c.item.result.now below c.item.ensures in
    let there = there_to_merge i.merging.0 c.loop-k.k _ _ _ _ _ f i.merging.2 i.merging.3 c.requires.upwards i.keys stands in
    let gives = item_at_place b c.loop-k.k f c.requires.upwards stands in
    let here = c.merge_at-changed.ensures.here (f.0, there.0) there.1 in
    let m = rw left at i.merging.3 in
    record {
      keys = rw here (i.keys ∙ set_keys c.loop-k.core c.loop-k.k (f.0, there.0) (union there.0 f.1) there.1);
      merging = (
        i.merging.0,
        i.merging.1,
        i.merging.2,
        turn_merged i.merging.0 c.loop-k.k _ _ _ _ _ _ _ _ there.0 f.1 m (upwards_from_keys b c.loop-k.core i.keys c.requires.upwards) there.1 gives
            (i.merging.2 _ _ f.1 gives) here c.merge_at-changed.result (c.merge_at-changed.ensures.changed (f.0, there.0) there.1),
      );
    }

pub returns-clause-taken : goal.returns-clause-taken
returns-clause-taken g c =
    let number = g.T.IndexStorage.number in
    let m = c.loop-k.invariant.merging in
    let all = (listed_in c.args.other.now) in
    let long = equally_long number (λ r. r.now) c.core.inside.items.items all _ c.core.view_is c.core.invariant c.requires.upwards c.requires.items in
    let end : length all ≤ c.loop-k.k = omega (arith, long, c.core.inside.items.ok.0) in
    record {
      union = end_merging m.0 _ _ _ _ _ m.3 (none_left number (λ r. r.now) all c.loop-k.k end);
      fits = λ grm h. fits_of_merging m.0 _ _ _ _ _ m.1 m.3 grm h;
    }
