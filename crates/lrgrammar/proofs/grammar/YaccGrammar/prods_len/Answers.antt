use Rattle.std.proofs.Common.{length, ap, ◌∙◌, arith}
use Rattle.std.proofs.lemmas.List.{length-map}
use Rattle.lrgrammar.specs.StoredGrammar.{production_of}
use Rattle.lrgrammar.proofs.Turns.{has_index, index_number}
use Rattle.lrgrammar.proofs.grammar.YaccGrammar.prods_len.Goals as goal

pub unwrap-requires : goal.unwrap-requires
unwrap-requires g c =
    has_index _ g.T.IndexStorage.MAX _ c.from_usize.result c.from_usize.ensures (omega (arith, c.len.ensures, c.self.inside.prods.ok.0, length-map c.self.inside.prods.items (production_of g.T.IndexStorage.number), c.self.invariant.sizes.productions))

pub returns-clause-value : goal.returns-clause-value
returns-clause-value g c =
    index_number g.T.IndexStorage.number g.T.IndexStorage.MAX _ c.from_usize.result c.unwrap.result c.unwrap.ensures c.from_usize.ensures ∙ omega (arith, c.len.ensures, c.self.inside.prods.ok.0, length-map c.self.inside.prods.items (production_of g.T.IndexStorage.number), ap (λ m. length m.productions) c.self.view_is)
