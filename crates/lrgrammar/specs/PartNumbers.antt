-- The numbers that rules and tokens of the parts get in the grammar.
use Rattle.std.specs.Prelude.{ℕ, ◌+◌, ◌≤◌, All, IfSome}
use Rattle.lrtext.specs.declared.parts.GrammarParts.{GrammarParts}
use Rattle.lrtext.specs.declared.parts.PartSymbol.{PartSymbol}
use Rattle.lrtext.specs.declared.parts.PartSymbol.TheVariants.{Rule, Token}

-- the number that a symbol of the parts gets in the grammar
abbrev pub part_number : PartSymbol → ℕ
part_number (Rule r) = r + 1
part_number (Token t) = t

-- the numbers that the parts get are at most `most`
pub record AreSmall (most : ℕ) (ps : GrammarParts) : Type 0 where
  pub rules : All (λ p. p.rule + 1 ≤ most) ps.prods.items
  pub symbols : All (λ p. All (λ s. part_number s ≤ most) p.symbols.items) ps.prods.items
  pub named : All (λ p. IfSome p.precedence (λ t. t ≤ most)) ps.prods.items
  pub start : ps.start + 1 ≤ most
