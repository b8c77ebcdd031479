use Rattle.std.proofs.Common.{◌≡◌, ◌∙◌, Bool, true, false, ap, is_some, map, not, sym}
use Rattle.lrgrammar.specs.StoredParts.{part_symbol_of}
use Rattle.lryacc.proofs.LeastSets.{has_all-by}
use Rattle.lryacc.proofs.useful.Search.has_all.Goals as goal

turned : (is some : Bool) → some ≡ not is → is ≡ not some
turned true some e = sym (ap not e)
turned false some e = sym (ap not e)

pub returns : goal.returns
returns c =
    let lacking = c.lacking_among.ensures in
    turned c.is_none.result (is_some c.lacking_among.result) c.is_none.ensures
    ∙ has_all-by c.args.self.now.found.items (map part_symbol_of c.args.symbols.now) c.lacking_among.result lacking.none lacking.gone lacking.among
