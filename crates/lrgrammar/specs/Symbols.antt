-- Indices and symbols of the code by their numbers.
use Rattle.std.specs.Prelude.{ℕ}
use Rattle.lrgrammar.specs.declared.idx.Symbol.{Symbol}
use Rattle.lrgrammar.specs.declared.idx.Symbol.TheVariants as code
use Rattle.lrspec.specs.grammars.Grammar as math

-- an index that is stored as a `u32` is its number
abbrev pub number_of : ℕ → ℕ
number_of n = n

-- a symbol by its number
abbrev pub symbol_of : {T : Type 0} → (T → ℕ) → Symbol T → math.Symbol
symbol_of number (code.Rule r) = math.Symbol.Rule (number r.0)
symbol_of number (code.Token t) = math.Symbol.Token (number t.0)
