-- a turn for each item of the closed state
use Rattle.std.proofs.Common.{sym, ap, ◌∙◌, subst}
use Rattle.lrspec.specs.grammars.ItemSets.{Items}
use Rattle.lrspec.specs.merging.Graph.{closed_of}
use Rattle.lritems.specs.ItemsOf.{items_of}
use Rattle.lrgrammar.specs.Symbols.{number_of}
use Rattle.lrdecided.specs.Contenders.{completes_of}
use Rattle.lrdecided.proofs.FoundContenders.{HasCompletesBut, begin_completes, next_completes, end_completes}
use Rattle.lrdecided.proofs.contending.completes.Goals as goal

pub loop-key-init : goal.loop-key-init
loop-key-init c =
    let i = c.into_iter-key-iterator.ensures.into_iter_gives in
    let set = closed_of c.args.graph.now c.args.state.0 in
    let are = ap (items_of number_of) i.0 ∙ c.closed_state.ensures.items in
    subst (λ (left : Items). HasCompletesBut c.args.grm.now set left (completes_of c.new-completes.result.items)) (sym are)
    (begin_completes c.args.grm.now set (completes_of c.new-completes.result.items))

pub loop-key-preserved : goal.loop-key-preserved
loop-key-preserved c =
    let set = closed_of c.args.graph.now c.args.state.0 in
    next_completes c.args.grm.now set (items_of number_of c.next.new.self) c.in-Some.key.now.0.0 c.in-Some.key.now.1.0 c.in-Some.tokens.now
    (completes_of c.loop-key.completes.items) (completes_of c.add_complete.new.completes.items) (rw c.in-Some.ensures.steps at c.loop-key.invariant)
    c.in_ok-add_complete.ensures.kept c.in_ok-add_complete.ensures.added

pub returns : goal.returns
returns c =
    end_completes c.args.grm.now (closed_of c.args.graph.now c.args.state.0) _ _ (ap (items_of number_of) c.in-None.ensures.steps.0) c.loop-key.invariant
