use Rattle.lryacc.proofs.PlacedLemmas.{placed-push}
use Rattle.lryacc.proofs.productions.Productions.add.Goals as goal

pub returns-clause-added : goal.returns-clause-added
returns-clause-added c = λ is_placed.
    rw (c.in_ok-push.ensures.items, c.in_ok-push-2.ensures.items, c.in_ok-push-3.ensures.items)
    (placed-push c.args.prod c.args.place c.args.symbol_places is_placed)
