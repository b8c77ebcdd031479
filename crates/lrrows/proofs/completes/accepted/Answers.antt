use Rattle.std.proofs.Common.{◌∙◌, option_map}
use Rattle.lritems.specs.ItemsOf.{set_of}
use Rattle.lrclosing.proofs.ItemKeys.{item_here}
use Rattle.lrrows.proofs.CompleteTurns.{accepted_found, bits_found}
use Rattle.lrrows.proofs.completes.accepted.Goals as goal

pub returns-clause-accepts : goal.returns-clause-accepts
returns-clause-accepts g c =
    let number = g.T.IndexStorage.number in
    let here = item_here number g.T.Ord.cmp g.met.T.IndexStorage.ordered c.args.closed.now.items.entries (c.start_prod-start.result, c.prod_len.result) in
    accepted_found c.args.grm.now (set_of number c.args.closed.now) (option_map (λ ctx. ctx.now) c.get.result) (number c.start_prod-start.result.0) (number c.prod_len.result.0)
    c.start_prod-start.ensures c.prod_len.ensures (c.get.ensures.value ∙ here)

pub returns-clause-bits : goal.returns-clause-bits
returns-clause-bits g c =
    let number = g.T.IndexStorage.number in
    let here = item_here number g.T.Ord.cmp g.met.T.IndexStorage.ordered c.args.closed.now.items.entries (c.start_prod-start.result, c.prod_len.result) in
    bits_found (λ ctx. ctx.now) c.args.grm.now (set_of number c.args.closed.now) (number c.start_prod-start.result.0) (number c.prod_len.result.0)
    c.get.result c.requires (c.get.ensures.value ∙ here)
