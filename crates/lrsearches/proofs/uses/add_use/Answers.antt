-- one row has the item more
use Rattle.lrsearches.proofs.UsesInTurn.{keeps_by_push}
use Rattle.lrsearches.proofs.uses.add_use.Goals as goal

pub returns-clause-kept : goal.returns-clause-kept
returns-clause-kept g c =
    keeps_by_push g.T.IndexStorage.number c.args.uses.now.items c.args.rule c.index_mut.result.now c.push.new.self c.args.item c.requires c.index_mut.ensures.value c.in_ok-push.ensures.items
