use Rattle.std.proofs.Common.{◌≡◌, ◌++◌, drop}
use Rattle.lritems.specs.ItemsOf.{items_of}
use Rattle.lritems.specs.Gotos.{items_in}
use Rattle.lritems.proofs.GotoItems.{items_shown}
use Rattle.lritems.proofs.cores.Core.from_goto.Given as goal

abbrev pub invariant-loop-key : goal.invariant-loop-key
invariant-loop-key g l =
    let number = g.T.IndexStorage.number in
    items_of number l.items.items ++ items_shown number (λ r. r.now) (drop l.key-index l.key-items) ≡ items_in number l.goto
