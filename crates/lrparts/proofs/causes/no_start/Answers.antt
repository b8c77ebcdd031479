use Rattle.std.proofs.Common.{◌≡◌, length, map, arith}
use Rattle.std.specs.String.{string_bytes}
use Rattle.std.proofs.lemmas.List.{length-map}
use Rattle.lrparts.proofs.TruthTests.{not_above}
use Rattle.lrparts.proofs.causes.no_start.Goals as goal

pub returns : goal.returns
returns c =
    let items = c.args.parts.now.rules.items in
    let same : c.len.result ≡ length (map string_bytes items) = omega (arith, c.len.ensures, c.args.parts.now.rules.ok.0, length-map items string_bytes) in
    not_above c.len.result c.args.parts.now.start (length (map string_bytes items)) same
