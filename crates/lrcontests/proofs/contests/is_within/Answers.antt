-- a turn for each item
use Rattle.std.proofs.Common.{◌≡◌, true, false, refl, sym, ap, ◌∙◌, inl}
use Rattle.std.specs.Option.{is_some}
use Rattle.lrspec.specs.grammars.ItemSets.{HasItem}
use Rattle.lritems.specs.ItemsOf.{set_of, items_of}
use Rattle.lrclosing.proofs.WalksOverItems.{found_all}
use Rattle.lrclosing.proofs.ItemKeys.{item_here}
use Rattle.lrcontests.proofs.ReasonsOfPlaces.{next_within}
use Rattle.lrcontests.proofs.contests.is_within.Goals as goal

pub loop-key-init : goal.loop-key-init
loop-key-init g c =
    let number = g.T.IndexStorage.number in
    let i = c.into_iter-key-iterator.ensures.into_iter_gives in
    record {
      found = rw i.0 (found_all number g.T.Ord.cmp g.met.T.IndexStorage.ordered c.args.one.now.items.entries c.args.one.now.items.entries i.6);
      passed = λ p d h. inl (rw (i.0) h);
    }

pub returns-then-not-contains_key : goal.returns-then-not-contains_key
returns-then-not-contains_key g c =
    let number = g.T.IndexStorage.number in
    let found = rw c.in-Some.ensures.steps at c.loop-key.invariant.found in
    let key = c.in-Some.key.now in
    let here = item_here number g.T.Ord.cmp g.met.T.IndexStorage.ordered c.args.other.now.items.entries key in (
      λ h. absurd cc,
      λ f. let no : false ≡ true = sym c.if-not-contains_key.true ∙ c.contains_key.ensures ∙ ap is_some here ∙ f (number key.0.0) (number key.1.0) (rw found.0 refl) in cc,
    )

pub loop-key-preserved : goal.loop-key-preserved
loop-key-preserved g c =
    let number = g.T.IndexStorage.number in
    let key = c.in-Some.key.now in
    let found = rw c.in-Some.ensures.steps at c.loop-key.invariant.found in
    let passed = rw c.in-Some.ensures.steps at c.loop-key.invariant.passed in
    let here = item_here number g.T.Ord.cmp g.met.T.IndexStorage.ordered c.args.other.now.items.entries key in
    let has : HasItem (set_of number c.args.other.now) (number key.0.0) (number key.1.0) =
    sym (ap is_some here) ∙ sym c.contains_key.ensures ∙ c.if-not-contains_key.false in
    record {
      found = found.1;
      passed =
          next_within (set_of number c.args.one.now) (set_of number c.args.other.now) (number key.0.0) (number key.1.0) c.in-Some.field-0-1.now
          (items_of number c.next.new.self) has passed;
    }
