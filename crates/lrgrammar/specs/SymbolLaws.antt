-- The order and the hash of symbols.
use Rattle.std.specs.Prelude.{ℕ, pos, ◌++◌}
use Rattle.std.specs.Hash as fed
use Rattle.std.specs.Hash.{HashWrites}
use Rattle.std.specs.Ordering.{nat_cmp}
use Rattle.std.specs.declared.cmp.Ordering.{Ordering}
use Rattle.std.specs.declared.cmp.Ordering.TheVariants.{Less, Greater}
use Rattle.lrgrammar.specs.declared.idx.Symbol.{Symbol}
use Rattle.lrgrammar.specs.declared.idx.Symbol.TheVariants.{Rule, Token}

-- how two symbols stand: all rules before all tokens, and then by number
abbrev pub symbol_cmp : {T : Type 0} → (T → ℕ) → Symbol T → Symbol T → Ordering
symbol_cmp number (Rule a) (Rule b) = nat_cmp (number a.0) (number b.0)
symbol_cmp number (Rule a) (Token b) = Less
symbol_cmp number (Token a) (Rule b) = Greater
symbol_cmp number (Token a) (Token b) = nat_cmp (number a.0) (number b.0)

-- what a hasher is fed of a symbol: its kind, and then its number
abbrev pub symbol_writes : {T : Type 0} → (T → HashWrites) → Symbol T → HashWrites
symbol_writes writes (Rule a) = fed.isize (pos 0) ++ writes a.0
symbol_writes writes (Token a) = fed.isize (pos 1) ++ writes a.0
