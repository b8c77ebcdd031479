use Rattle.std.proofs.Common.{◌≡◌, length, map, arith}
use Rattle.std.proofs.lemmas.List.{length-map}
use Rattle.lrtext.specs.StoredParts.{part_production_of}
use Rattle.lrparts.proofs.TruthTests.{below_more}
use Rattle.lrparts.proofs.causes.too_many_productions.Goals as goal

pub returns : goal.returns
returns c =
    let items = c.args.parts.now.prods.items in
    let same : c.len.result ≡ length (map part_production_of items) = omega (arith, c.len.ensures, c.args.parts.now.prods.ok.0, length-map items part_production_of) in
    below_more c.args.most c.len.result (length (map part_production_of items)) same
