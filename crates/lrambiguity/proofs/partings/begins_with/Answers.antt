use Rattle.std.proofs.Common.{sym, ◌∙◌, refl}
use Rattle.lrambiguity.proofs.MoveTests.{first_is}
use Rattle.lrambiguity.proofs.partings.begins_with.Goals as goal

pub returns : goal.returns
returns g c = λ is.
    first_is g.T.IndexStorage.number g.T.PartialEq.eq g.met.T.IndexStorage.same _ (record { shift_reduce = λ q. refl; reduce_shift = λ p. refl; reduces = λ p q. refl })
    c.args.moves.now c.copied.result c.args.first (c.copied.ensures ∙ c.first.ensures.value) (sym is ∙ c.eq.ensures)
