-- productions and their rules, and the symbols before and behind a dot
use Rattle.std.proofs.Common.{◌≡◌, ℕ, zero, suc, ◌<◌, ◌≤◌, List, [], ◌∷◌, ◌++◌, length, take, drop, refl, sym, ap, ◌∙◌, append_assoc, arith, true, Option, None, Some}
use Rattle.std.specs.Prelude.{slice_get}
use Rattle.std.proofs.lemmas.Bool.{eq-eqb}
use Rattle.lrspec.specs.grammars.Grammar.{Symbol, Rule, Production, Grammar, IsGrammar, IsOfRule, IsBodySymbol, AreBodySymbols, body_of, IsProductionOf, is_of_rule, rule_of, rule_or_zero}
use Rattle.lrspec.specs.grammars.ItemSets.{IsBefore}

-- a place of a list with a production of the rule is within the list
below_of_rule : (ps : List Production) (k r : ℕ) → IsOfRule (slice_get ps k) r → k < length ps
below_of_rule [] k r e = absurd e
below_of_rule (p ∷ ps) zero r e = omega arith
below_of_rule (p ∷ ps) (suc k) r e = let h : k < length ps = below_of_rule ps k r e in omega arith

-- a production of a rule is one of the grammar
pub below_of_production : (g : Grammar) (p r : ℕ) → IsProductionOf g p r → p < length g.productions
below_of_production g p r h = below_of_rule g.productions p r h

-- the rule of a production is one
same_rule : (o : Option Production) (r s : ℕ) → IsOfRule o r → IsOfRule o s → r ≡ s
same_rule None r s h k = absurd h
same_rule (Some p) r s h k = cc

-- a production is of one rule
pub rule_unique : (g : Grammar) (p r s : ℕ) → IsProductionOf g p r → IsProductionOf g p s → r ≡ s
rule_unique g p r s h k = same_rule (slice_get g.productions p) r s h k

-- a production of the rule passes its test
test_of_rule : (o : Option Production) (r : ℕ) → IsOfRule o r → is_of_rule o r ≡ true
test_of_rule None r h = absurd h
test_of_rule (Some p) r h = eq-eqb p.rule r h

pub test_from_of_rule : (g : Grammar) (p r : ℕ) → IsProductionOf g p r → is_of_rule (slice_get g.productions p) r ≡ true
test_from_of_rule g p r h = test_of_rule (slice_get g.productions p) r h

-- the rule of a production
rule_by : (o : Option Production) (r : ℕ) → IsOfRule o r → rule_or_zero o ≡ r
rule_by None r h = absurd h
rule_by (Some p) r h = h

pub rule_of_production : (g : Grammar) (p r : ℕ) → IsProductionOf g p r → rule_of g p ≡ r
rule_of_production g p r h = rule_by (slice_get g.productions p) r h

-- a dot with a symbol behind it is within the body
pub below_of_drop : (b : List Symbol) (d : ℕ) (x : Symbol) (y : List Symbol) → drop d b ≡ x ∷ y → suc d ≤ length b
below_of_drop [] zero x y e = cc
below_of_drop [] (suc d) x y e = cc
below_of_drop (a ∷ b) zero x y e = omega arith
below_of_drop (a ∷ b) (suc d) x y e = let h : suc d ≤ length b = below_of_drop b d x y e in omega arith

-- what is left behind the next symbol
pub rest_next : (b : List Symbol) (d : ℕ) (x : Symbol) (y : List Symbol) → drop d b ≡ x ∷ y → drop (suc d) b ≡ y
rest_next [] zero x y e = cc
rest_next [] (suc d) x y e = cc
rest_next (a ∷ b) zero x y e = cc
rest_next (a ∷ b) (suc d) x y e = rest_next b d x y e

-- the symbols before the dot once it has moved
pub take_next : (b : List Symbol) (d : ℕ) (x : Symbol) (y : List Symbol) → drop d b ≡ x ∷ y → take (suc d) b ≡ take d b ++ x ∷ []
take_next [] zero x y e = cc
take_next [] (suc d) x y e = cc
take_next (a ∷ b) zero x y e = cc
take_next (a ∷ b) (suc d) x y e = ap (λ l. a ∷ l) (take_next b d x y e)

-- a dot before the end of the body has a symbol behind it
pub drop_some : (b : List Symbol) (d : ℕ) → suc d ≤ length b → (x : Symbol) × (y : List Symbol) × (drop d b ≡ x ∷ y)
drop_some [] d h = absurd (omega arith)
drop_some (a ∷ b) zero h = (a, b, refl)
drop_some (a ∷ b) (suc d) h = drop_some b d (omega arith)

-- two lists with a last symbol are the same only with the same fronts and last symbols
pub push_same : (v w : List Symbol) (x z : Symbol) → v ++ x ∷ [] ≡ w ++ z ∷ [] → (v ≡ w) × (x ≡ z)
push_same [] [] x z e = (refl, cc)
push_same [] (b ∷ []) x z e = absurd cc
push_same [] (b ∷ c ∷ w) x z e = absurd cc
push_same (a ∷ []) [] x z e = absurd cc
push_same (a ∷ c ∷ v) [] x z e = absurd cc
push_same (a ∷ v) (b ∷ w) x z e =
    let both = push_same v w x z cc in
    let front : a ≡ b = cc in
    let back : v ≡ w = both.0 in
    (cc, both.1)

-- a list with a last symbol is not empty
pub push_not_empty : (w : List Symbol) (x : Symbol) → w ++ x ∷ [] ≡ [] → ⊥
push_not_empty [] x e = absurd cc
push_not_empty (a ∷ w) x e = absurd cc

-- a list that ends with the symbols before a dot, with the next symbol after it
pub split_next :
    (b : List Symbol) (d : ℕ) (u v w : List Symbol) (x : Symbol) (y : List Symbol) → w ≡ v ++ x ∷ [] → v ≡ u ++ take d b → drop d b ≡ x ∷ y
    → w ≡ u ++ take (suc d) b
split_next b d u v w x y e f h = e ∙ (ap (λ l. l ++ x ∷ []) f ∙ (append_assoc u (take d b) (x ∷ []) ∙ ap (λ l. u ++ l) (sym (take_next b d x y h))))

-- each symbol of a list of body symbols is one
body_symbol : (g : Grammar) (b : List Symbol) (d : ℕ) (x : Symbol) (y : List Symbol) → AreBodySymbols g b → drop d b ≡ x ∷ y → IsBodySymbol g x
body_symbol g [] zero x y h e = absurd cc
body_symbol g [] (suc d) x y h e = absurd cc
body_symbol g (a ∷ b) zero x y h e = let k : a ≡ x = cc in rw (← k) h.0
body_symbol g (a ∷ b) (suc d) x y h e = body_symbol g b d x y h.1 e

-- what stands behind a dot is a symbol of bodies
pub symbol_at_dot : {g : Grammar} → IsGrammar g → (p d : ℕ) (x : Symbol) → IsBefore g p d x → IsBodySymbol g x
symbol_at_dot {g} m p d x b = body_symbol g (body_of g p) d x b.0 (m.symbols p) b.1

-- the start production is of rule 0
pub start_rule : {g : Grammar} → IsGrammar g → IsProductionOf g g.start_production 0
start_rule {g} m = rw m.start.1 refl

-- no item is before the rule of the start production
pub start_not_before : {g : Grammar} → IsGrammar g → (p d r : ℕ) → IsBefore g p d (Rule r) → IsProductionOf g g.start_production r → ⊥
start_not_before {g} m p d r b h = (symbol_at_dot m p d (Rule r) b).0 (rule_unique g g.start_production r 0 h (start_rule m))
