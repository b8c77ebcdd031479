use Rattle.std.proofs.Common.{◌≡◌, ◌+◌, ◌≤◌, ap, sym, ◌∙◌, subst}
use Rattle.lrspec.specs.grammars.Grammar as math
use Rattle.lrspec.specs.texts.Parts.{shifted}
use Rattle.lrtext.specs.StoredParts.{part_symbol_of}
use Rattle.lrgrammar.specs.PartNumbers.{part_number}
use Rattle.lrgrammar.proofs.Turns.{has_index, index_number}
use Rattle.lrgrammar.proofs.grammar.make.numbered.Goals as goal

pub returns-in-Rule : goal.returns-in-Rule
returns-in-Rule g c =
    let n : g.T.IndexStorage.number c.unwrap.result ≡ c.in-Rule.r + 1 = index_number g.T.IndexStorage.number g.T.IndexStorage.MAX (c.in-Rule.r + 1) c.from_usize.result c.unwrap.result c.unwrap.ensures c.from_usize.ensures in
    ap (λ k. math.Symbol.Rule k) n ∙ sym (ap (λ s. shifted (part_symbol_of s)) c.in-Rule.is)

pub returns-in-Token : goal.returns-in-Token
returns-in-Token g c =
    let n : g.T.IndexStorage.number c.unwrap-in-Token.result ≡ c.in-Token.t = index_number g.T.IndexStorage.number g.T.IndexStorage.MAX c.in-Token.t c.from_usize-in-Token.result c.unwrap-in-Token.result c.unwrap-in-Token.ensures c.from_usize-in-Token.ensures in
    ap (λ k. math.Symbol.Token k) n ∙ sym (ap (λ s. shifted (part_symbol_of s)) c.in-Token.is)

pub unwrap-requires : goal.unwrap-requires
unwrap-requires g c =
    has_index _ g.T.IndexStorage.MAX (c.in-Rule.r + 1) c.from_usize.result c.from_usize.ensures (subst (λ s. part_number s ≤ g.T.IndexStorage.MAX) c.in-Rule.is c.requires)

pub unwrap-requires-in-Token : goal.unwrap-requires-in-Token
unwrap-requires-in-Token g c =
    has_index _ g.T.IndexStorage.MAX c.in-Token.t c.from_usize-in-Token.result c.from_usize-in-Token.ensures (subst (λ s. part_number s ≤ g.T.IndexStorage.MAX) c.in-Token.is c.requires)
