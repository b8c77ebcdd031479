use Rattle.std.proofs.Common.{sym, ap, ◌∙◌}
use Rattle.std.specs.Option.{is_some}
use Rattle.std.proofs.lemmas.List.Elements.{All-nil, All-cons}
use Rattle.lrclosing.proofs.ItemKeys.{item_here}
use Rattle.lrambiguity.proofs.ItemKeys.{HasKey, items_had}
use Rattle.lrambiguity.proofs.partings.has_items_of.Goals as goal

pub loop-key-preserved : goal.loop-key-preserved
loop-key-preserved g c =
    let number = g.T.IndexStorage.number in
    let has = HasKey number c.args.one.now in
    let key = c.in-Some.key.now in
    let here = item_here number g.T.Ord.cmp g.met.T.IndexStorage.ordered c.args.one.now.items.entries key in
    let had : has key = ap is_some (sym here) ∙ sym c.if-not-contains_key.ensures in
    λ all. (rw c.in-Some.ensures.steps at c.loop-key.invariant) (All-cons has key c.next.new.self had all)

pub returns : goal.returns
returns g c = λ _.
    let number = g.T.IndexStorage.number in
    let has = HasKey number c.args.one.now in
    items_had number c.args.one.now c.args.other.now.items.entries ((rw c.in-None.ensures.steps.0 at c.loop-key.invariant) (All-nil has))
