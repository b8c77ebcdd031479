-- the test of two symbols decides whether they are the same
use Rattle.std.proofs.Common.{◌≡◌, ◌≢◌, Bool, true, false, refl, ap}
use Rattle.std.proofs.lemmas.Bool.{eqb-true, eq-eqb}
use Rattle.lrspec.specs.grammars.Grammar.{Symbol, Rule, Token}
use Rattle.lrspec.specs.merging.Graph.{same_symbol}

-- a symbol passes it with itself
pub same_symbol_itself : (x : Symbol) → same_symbol x x ≡ true
same_symbol_itself (Rule r) = eq-eqb r r refl
same_symbol_itself (Token t) = eq-eqb t t refl

-- symbols that pass it are the same
pub symbol_from_same : (x y : Symbol) → same_symbol x y ≡ true → x ≡ y
symbol_from_same (Rule r) (Rule s) e = ap Rule (eqb-true r s e)
symbol_from_same (Rule r) (Token t) e = cc
symbol_from_same (Token t) (Rule s) e = cc
symbol_from_same (Token t) (Token u) e = ap Token (eqb-true t u e)

-- two that differ fail it
pub same_symbol_differ : (x y : Symbol) → x ≢ y → same_symbol x y ≡ false
same_symbol_differ x y n = by_test (same_symbol x y) refl
  where
    by_test : (b : Bool) → same_symbol x y ≡ b → same_symbol x y ≡ false
    by_test true e = absurd (n (symbol_from_same x y e))
    by_test false e = e
