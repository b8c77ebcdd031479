use Rattle.std.proofs.Common.{refl, ap, inl, inr}
use Rattle.std.specs.Ordering.{nat_cmp}
use Rattle.lritems.specs.ItemsOf.{items_of}
use Rattle.lrclosing.proofs.WalksOverItems.{found_all}
use Rattle.lrrows.specs.StateRows.{complete_items}
use Rattle.lrgrammar.specs.Symbols.{number_of}
use Rattle.lrfindings.specs.StoredCells.{complete}
use Rattle.lrfindings.proofs.CellsInTurn.{same_by_test}
use Rattle.lrrows.proofs.CompleteTurns.{complete_turn, passed_turn, all_listed, left_out}
use Rattle.lrrows.proofs.CompleteTurns.{equal_by_test, differ_by_test, denied}
use Rattle.lrfindings.proofs.cells.reductions_of.Goals as goal
use Rattle.lrfindings.proofs.cells.reductions_of.Goals.{else-eq-via-then-eq+else-ne, else-eq-via-else-eq}

pub loop-key-init : goal.loop-key-init
loop-key-init c =
    let i = c.into_iter-key-iterator.ensures.into_iter_gives in
    let es = c.args.closed.now.items.entries in
    record {
      found = rw i.0 (found_all number_of nat_cmp (λ x y. refl) es es i.6);
      items = rw (c.new-reductions.ensures.items, i.0) (refl {a = complete_items c.args.grm.now (items_of number_of es)});
    }

pub prod_len-requires : goal.prod_len-requires
prod_len-requires c =
    let found = rw c.in-Some.ensures.steps at c.loop-key.invariant.found in
    (c.requires _ _ c.in-Some.tokens.now found.0).production

pub loop-key-preserved-then-ne : goal.loop-key-preserved-then-ne
loop-key-preserved-then-ne c =
    let grm = c.args.grm.now in
    let found = rw c.in-Some.ensures.steps at c.loop-key.invariant.found in
    let items = rw c.in-Some.ensures.steps at c.loop-key.invariant.items in
    let p = c.in-Some.key.now.0.0 in
    let d = c.in-Some.key.now.1.0 in
    let end = equal_by_test _ d c.prod_len.result.0 _ (same_by_test d c.prod_len.result.0) c.if-eq.ensures c.prod_len.ensures in
    let other = differ_by_test _ p c.start_prod.result.0 _ (same_by_test p c.start_prod.result.0) (denied _ _ c.if-ne.ensures) c.start_prod.ensures in
    record {
      found = found.1;
      items = complete_turn complete grm c.loop-key.reductions.items c.push.new.self.items _ p d
          c.in-Some.tokens.now (items_of number_of c.next.new.self) (complete_items grm (items_of number_of c.args.closed.now.items.entries)) (rw c.from-production.ensures refl) end other c.in_ok-push.ensures.items items;
    }

pub loop-key-preserved : goal.loop-key-preserved
loop-key-preserved c =
    let grm = c.args.grm.now in
    let found = rw c.in-Some.ensures.steps at c.loop-key.invariant.found in
    let items = rw c.in-Some.ensures.steps at c.loop-key.invariant.items in
    let p = c.in-Some.key.now.0.0 in
    let d = c.in-Some.key.now.1.0 in
    let passed = passed_turn complete grm c.loop-key.reductions.items p d c.in-Some.tokens.now (items_of number_of c.next.new.self)
    (complete_items grm (items_of number_of c.args.closed.now.items.entries)) in
    elim c.else-eq.branch [
      | else-eq-via-then-eq+else-ne w ↦
          let start = equal_by_test _ p w.start_prod.result.0 _ (same_by_test p w.start_prod.result.0) (denied _ _ w.if-ne.ensures) w.start_prod.ensures in
          record {
            found = found.1;
            items = passed (left_out grm p d c.in-Some.tokens.now (inr start)) items;
          }
      | else-eq-via-else-eq w ↦
          let dot = differ_by_test _ d c.prod_len.result.0 _ (same_by_test d c.prod_len.result.0) w.if-eq.ensures c.prod_len.ensures in
          record {
            found = found.1;
            items = passed (left_out grm p d c.in-Some.tokens.now (inl dot)) items;
          }
    ]

pub returns : goal.returns
returns c =
    all_listed _ _ _
    (ap (λ es. complete_items c.args.grm.now (items_of number_of es))
    c.in-None.ensures.steps.0)
    c.loop-key.invariant.items
