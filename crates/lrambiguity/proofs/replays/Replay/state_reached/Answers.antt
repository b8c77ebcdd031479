use Rattle.std.proofs.Common.{◌≡◌, ◌+◌, ◌<◌, [], ◌∷◌, ◌++◌, length, take, sym, ap, ◌∙◌, arith}
use Rattle.std.proofs.lemmas.List.{take_more, map-append}
use Rattle.lrgrammar.specs.Symbols.{symbol_of}
use Rattle.lrspec.specs.merging.Graph.{Leads}
use Rattle.lrspec.specs.merging.Graph as graph
use Rattle.lrambiguity.proofs.replays.Replay.state_reached.Goals as goal

pub loop-root-init : goal.loop-root-init
loop-root-init g c = rw c.start_state-state.ensures graph.Leads.start

pub loop-root-preserved : goal.loop-root-preserved
loop-root-preserved g c =
    let symbol = symbol_of g.T.IndexStorage.number in
    let i = c.loop-root.root-index in
    let roots = c.args.self.now.roots.items in
    let root = c.root-item.result in
    let items = c.deref-root-items.ensures.value in
    let below : i < length roots = omega (arith, ap length items, c.loop-root-test.true) in
    let is : take (i + 1) roots ≡ take i roots ++ root ∷ [] = take_more roots i root below ∙ ap (λ x. take i roots ++ x ∷ []) (sym (rw items at c.root-item.is)) in
    rw (is, map-append symbol (take i roots) (root ∷ [])) (graph.Leads.follow (symbol root) c.loop-root.invariant (sym c.in_ok-state.ensures))
