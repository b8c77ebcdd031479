use Rattle.std.proofs.Common.{◌*◌, arith}
use Rattle.lrsparse.proofs.ListedShort.{listed_short}
use Rattle.lrsparse.proofs.MetColumns.{full_within}
use Rattle.lrsparse.proofs.sparsevec.places.Places.behind_full.Goals as goal

pub overflow_mul-self : goal.overflow_mul-self
overflow_mul-self c =
    let places = c.args.self.now in
    omega (arith, full_within places.owned.items (64 * places.full) c.requires.full, c.requires.words, listed_short places.list)
