use Rattle.std.proofs.Common.{◌∙◌, sym}
use Rattle.lritems.proofs.GotoItems.{found_shown}
use Rattle.lrpager.proofs.pager.contested.is_contested.Goals as goal
use Rattle.lrpager.proofs.pager.contested.is_contested.Goals.{then-eq+else-intersects, else-eq}

pub prod_len-requires : goal.prod_len-requires
prod_len-requires g c =
    let found = found_shown g.T.IndexStorage.number (λ r. r.now) c.args.closed.now c.loop-key.key-index c.loop-key-item.result c.requires.upwards c.loop-key-test.true c.loop-key-item.is in
    (c.requires.fits _ _ _ found).production

pub intersects-requires : goal.intersects-requires
intersects-requires g c =
    let found = found_shown g.T.IndexStorage.number (λ r. r.now) c.args.closed.now c.loop-key.key-index c.loop-key-item.result c.requires.upwards c.loop-key-test.true c.loop-key-item.is in
    (c.requires.fits _ _ _ found).bits ∙ sym c.loop-key.invariant

pub or-requires : goal.or-requires
or-requires g c =
    let found = found_shown g.T.IndexStorage.number (λ r. r.now) c.args.closed.now c.loop-key.key-index c.loop-key-item.result c.requires.upwards c.loop-key-test.true c.loop-key-item.is in
    (c.requires.fits _ _ _ found).bits ∙ sym c.loop-key.invariant

pub loop-key-preserved : goal.loop-key-preserved
loop-key-preserved g c = elim c.if-eq.branch [
  | then-eq+else-intersects w ↦ rw w.tokens-is (w.or.ensures.len ∙ c.loop-key.invariant)
  | else-eq w ↦ rw w.tokens-is c.loop-key.invariant
]
