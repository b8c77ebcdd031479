-- the look-up finds the item, or the state has none
use Rattle.std.proofs.Common.{refl, sym, ◌∙◌, subst}
use Rattle.std.specs.Ordering.{nat_cmp}
use Rattle.lrspec.specs.grammars.ItemSets.{Items, HasItem}
use Rattle.lritems.specs.ItemsOf.{set_of}
use Rattle.lrclosing.proofs.ItemKeys.{item_here}
use Rattle.lrsearches.proofs.ClosesInTurn.{absent_item}
use Rattle.lrgrammar.specs.Symbols.{number_of}
use Rattle.lrdecided.proofs.states.has_item.Goals as goal

pub returns-in-None : goal.returns-in-None
returns-in-None c = λ e has.
    let item = c.args.item in
    let here = item_here number_of nat_cmp (λ x y. refl) c.closed_state.result.now.items.entries item in
    let Has : Items → Type 0 = λ a. HasItem a item.0.0 item.1.0 in
    absent_item (set_of number_of c.closed_state.result.now) item.0.0 item.1.0 (sym (c.in-None.ensures.value ∙ here)) (subst Has (sym c.closed_state.ensures.items) has)
