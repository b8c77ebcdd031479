-- tests whether symbols are the same
use Rattle.std.proofs.Common.{◌≡◌, Bool, true, false, refl, ap}
use Rattle.std.proofs.lemmas.Bool.{eqb-true, eq-eqb}
use Rattle.lrspec.specs.grammars.Grammar as math
use Rattle.lrspec.specs.merging.Graph.{same_symbol}

-- symbols that test as the same are
pub symbol_from_test : (x y : math.Symbol) → same_symbol x y ≡ true → x ≡ y
symbol_from_test (math.Rule r) (math.Rule s) e = ap math.Rule (eqb-true r s e)
symbol_from_test (math.Rule r) (math.Token t) e = cc
symbol_from_test (math.Token t) (math.Rule s) e = cc
symbol_from_test (math.Token t) (math.Token u) e = ap math.Token (eqb-true t u e)

-- a symbol tests as the same as itself
pub test_itself : (x : math.Symbol) → same_symbol x x ≡ true
test_itself (math.Rule r) = eq-eqb r r refl
test_itself (math.Token t) = eq-eqb t t refl

-- symbols that differ test so
pub test_apart : (x y : math.Symbol) → (x ≡ y → ⊥) → same_symbol x y ≡ false
test_apart x y n = go (same_symbol x y) refl
  where
    go : (b : Bool) → same_symbol x y ≡ b → b ≡ false
    go true e = absurd (n (symbol_from_test x y e))
    go false e = refl
