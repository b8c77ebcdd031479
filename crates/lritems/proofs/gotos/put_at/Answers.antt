use Rattle.std.proofs.Common.{◌∷◌, ap}
use Rattle.lritems.proofs.GotoItems.{item_shown, pushed_shown}
use Rattle.lritems.proofs.GotoPlaces.{put_in_goto}
use Rattle.lritems.proofs.gotos.put_at.Goals as goal

pub returns : goal.returns
returns g c =
    let number = g.T.IndexStorage.number in
    put_in_goto number c.args.gotos.now.items c.args.place c.index_mut.result.now _ (number c.args.pidx.0) (number c.args.dot.0) c.args.ctx.now c.requires c.index_mut.ensures.value
    (ap (λ xs. item_shown number (λ r. r.now) c.index_mut.result.now.1.first ∷ xs)
    (pushed_shown number (λ r. r.now) c.index_mut.result.now.1.others.items c.push.new.self.items (c.args.pidx, c.args.dot) c.args.ctx c.in_ok-push.ensures.items))
