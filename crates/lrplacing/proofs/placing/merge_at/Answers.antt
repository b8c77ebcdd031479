use Rattle.std.proofs.Common.{length-set}
use Rattle.lritems.specs.Gotos.{items_in}
use Rattle.lritems.specs.Merging.{CanTakeIn, TookIn}
use Rattle.lrplacing.specs.Construction.{TellsGrowth}
use Rattle.lrplacing.proofs.DraftLists.{core_found, closed_found, core_put, closed_put, elsewhere, of_read, of_cores, edges_kept}
use Rattle.lrplacing.proofs.placing.merge_at.Goals as goal

pub returns-clause-closed : goal.returns-clause-closed
returns-clause-closed g c =
    rw (
      core_put c.args.drafts.now.items c.args.k c.merge.new.self c.requires.below,
      closed_put c.args.drafts.now.items c.args.k c.merge.new.self c.requires.below,
      core_found c.args.drafts.now.items c.args.k c.index_mut.result.now c.requires.below c.index_mut.ensures.value,
      closed_found c.args.drafts.now.items c.args.k c.index_mut.result.now c.requires.below c.index_mut.ensures.value,
    )
    c.merge.ensures.closed

pub merge-requires : goal.merge-requires
merge-requires g c =
    let goto = items_in g.T.IndexStorage.number c.args.goto.now in
    let read = of_read c.args.drafts.now.items c.args.k c.index_mut.result.now c.requires.below c.index_mut.ensures.value in
    read (λ a. CanTakeIn a goto) c.requires.can

pub returns-clause-len : goal.returns-clause-len
returns-clause-len g c = length-set c.args.drafts.now.items c.args.k c.merge.new.self

pub returns-clause-others : goal.returns-clause-others
returns-clause-others g c = λ j n. elsewhere c.args.drafts.now.items c.args.k j c.merge.new.self n

pub returns-clause-edges : goal.returns-clause-edges
returns-clause-edges g c =
    edges_kept c.args.drafts.now.items c.args.k c.index_mut.result.now c.merge.new.self c.requires.below c.index_mut.ensures.value c.merge.ensures.edges

pub returns-clause-taken : goal.returns-clause-taken
returns-clause-taken g c =
    of_cores c.args.drafts.now.items c.args.k c.index_mut.result.now c.merge.new.self c.requires.below c.index_mut.ensures.value
    (λ a b. TookIn a (items_in g.T.IndexStorage.number c.args.goto.now) b) c.merge.ensures.taken

pub returns-clause-grew : goal.returns-clause-grew
returns-clause-grew g c =
    of_cores c.args.drafts.now.items c.args.k c.index_mut.result.now c.merge.new.self c.requires.below c.index_mut.ensures.value
    (TellsGrowth c.merge.result) c.merge.ensures.grew
