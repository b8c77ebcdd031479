use Rattle.std.proofs.Common.{◌≤◌, length, ap, sym, ◌∙◌, arith}
use Rattle.std.proofs.lemmas.List.{length-map}
use Rattle.lrgrammar.specs.Symbols.{symbol_of}
use Rattle.lrgrammar.proofs.Turns.{has_index, index_number}
use Rattle.lrgrammar.proofs.grammar.YaccGrammar.prod_len.Goals as goal

pub prod-requires : goal.prod-requires
prod-requires g c = c.requires

pub unwrap-requires : goal.unwrap-requires
unwrap-requires g c =
    let number = g.T.IndexStorage.number in
    let most = g.T.IndexStorage.MAX in
    let symbols = c.prod.result.now in
    let fits : length symbols ≤ most = omega (arith, c.prod.ensures.sizes.bodies (number c.args.pidx.0), ap length c.prod.ensures.body, length-map symbols (symbol_of number)) in
    has_index _ most (length symbols) c.from_usize.result c.from_usize.ensures fits

pub returns : goal.returns
returns g c =
    let number = g.T.IndexStorage.number in
    let symbols = c.prod.result.now in
    index_number number g.T.IndexStorage.MAX (length symbols) c.from_usize.result c.unwrap.result c.unwrap.ensures c.from_usize.ensures ∙ sym (length-map symbols (symbol_of number)) ∙ ap length c.prod.ensures.body
