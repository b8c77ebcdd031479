use Rattle.std.proofs.Common.{arith}
use Rattle.lritems.proofs.MergedPlace.{place_below, merged_long, merged_upwards, merged_here, merged_changed}
use Rattle.lritems.proofs.merging.merge_at.Goals as goal

pub index_mut-requires : goal.index_mut-requires
index_mut-requires g c =
    let below = place_below g.T.IndexStorage.number c.core.inside.items.items c.args.core.now c.args.place c.args.ctx.now c.core.view_is c.requires in
    omega (arith, below, c.core.inside.items.ok.0)

pub or-requires : goal.or-requires
or-requires g c =
    merged_long g.T.IndexStorage.number c.core.inside.items.items c.args.core.now c.args.place c.args.ctx.now c.index_mut.result.now.1 c.index_mut.result.now c.core.view_is
    c.requires c.index_mut.ensures.value

pub invariant_of-core : goal.invariant_of-core
invariant_of-core g c =
    merged_upwards g.T.IndexStorage.number c.core.inside.items.items c.args.core.now c.args.place c.args.ctx.now c.or.new.self c.index_mut.result.now c.core.view_is
    c.requires c.index_mut.ensures.value c.core.invariant

pub returns-clause-here : goal.returns-clause-here
returns-clause-here g c =
    merged_here g.T.IndexStorage.number c.core.inside.items.items c.args.core.now c.args.place c.args.ctx.now c.or.new.self c.index_mut.result.now c.core.view_is
    c.requires c.index_mut.ensures.value c.or.ensures.after

pub returns-clause-changed : goal.returns-clause-changed
returns-clause-changed g c =
    merged_changed g.T.IndexStorage.number c.core.inside.items.items c.args.core.now c.args.place c.args.ctx.now c.or.new.self c.index_mut.result.now c.core.view_is
    c.requires c.index_mut.ensures.value c.or.result c.or.ensures.after c.or.ensures.changed
