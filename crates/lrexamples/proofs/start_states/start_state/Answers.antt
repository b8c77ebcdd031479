use Rattle.std.proofs.Common.{◌≡◌, ℕ, Bool, List, length, None, Some, refl, ◌∙◌, arith, length-set}
use Rattle.std.proofs.lemmas.List.{length-replicate}
use Rattle.lrspec.specs.grammars.Grammar.{Grammar, token_count}
use Rattle.lrspec.specs.grammars.ItemSets.{Items, item_at, Fits, FitsAt}
use Rattle.lrspec.specs.merging.WeakCompatibility.{Apart}
use Rattle.lrexamples.proofs.start_states.start_state.Goals as goal

-- items of which one is there fit where that does
one_fits :
    (g : Grammar) (a : Items) (p d : ℕ) (v : List Bool) → item_at a p d ≡ Some v → ((q e : ℕ) → Apart p d q e → item_at a q e ≡ None)
    → FitsAt g p d v → Fits g a
one_fits g a p d v here others fits q e w there = grind arith

pub set-requires : goal.set-requires
set-requires c = rw (c.in_ok-end.ensures.bits, length-replicate) (omega arith)

pub add-requires : goal.add-requires
add-requires c = rw c.new-start.ensures tt

pub close-requires-clause-fits : goal.close-requires-clause-fits
close-requires-clause-fits c =
    let none = c.new-start.ensures in
    let bits : length c.set.new.self ≡ token_count c.args.grm.now =
    rw (c.set.ensures.after, length-set, c.in_ok-end.ensures.bits, length-replicate, c.from.ensures) c.tokens_len.ensures.value in
    one_fits c.args.grm.now _ _ _ _ (rw none at c.in_ok-add.ensures.here) (λ q e apart. c.in_ok-add.ensures.others q e apart ∙ rw none refl)
    (record { production = omega (arith, c.tokens_len.ensures.shape.last); dot = omega arith; bits = bits })
