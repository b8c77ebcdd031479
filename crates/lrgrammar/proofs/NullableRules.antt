-- The bits of nullable rules: each holds, and where they are closed none is missing.
use Rattle.std.proofs.Common.{◌≡◌, ℕ, zero, suc, ◌+◌, ◌<◌, ◌≤◌, ◌≢◌, Bool, true, IsTrue, ◌↔◌, List, [], ◌∷◌, length, set, get_or-set_other, arith, refl, sym, ◌∙◌, ⊎_elim, Option, None, Some}
use Rattle.std.specs.Prelude.{slice_get}
use Rattle.std.proofs.lemmas.Bool.{cases_eq, and_from, and_parts}
use Rattle.lrspec.specs.grammars.Grammar.{Symbol, Rule, Token, Grammar, Production, body_of, IsOfRule, IsProductionOf}
use Rattle.lrspec.specs.grammars.First.{Nullable, AllNullable, by_body, none, more}
use Rattle.lrbits.specs.Bits.{bit}
use Rattle.lrgrammar.specs.NullableBits.{all_set, HoldsNullable, IsClosedUnderBodies, IsClosedUnderBodiesBelow}

-- a closed vector holds each nullable rule
mutual
  pub set_from_closed : {g : Grammar} {r : ℕ} (v : List Bool) → IsClosedUnderBodies g v → Nullable g r → IsTrue (bit v r)
  set_from_closed v c (by_body p h a) = c p _ h (all_set_from_closed v c a)

  pub all_set_from_closed : {g : Grammar} {y : List Symbol} (v : List Bool) → IsClosedUnderBodies g v → AllNullable g y → IsTrue (all_set v y)
  all_set_from_closed v c none = refl
  all_set_from_closed v c (more n a) = and_from _ _ (set_from_closed v c n) (all_set_from_closed v c a)

-- a body of set bits is nullable where the set bits are nullable rules'
pub nullable_from_set : {g : Grammar} (v : List Bool) (y : List Symbol) → HoldsNullable g v → IsTrue (all_set v y) → AllNullable g y
nullable_from_set v [] s h = none
nullable_from_set v (Rule r ∷ y) s h = let b = and_parts (bit v r) (all_set v y) h in more (s r b.0) (nullable_from_set v y s b.1)
nullable_from_set v (Token t ∷ y) s h = cc

-- one bit more
pub holds_set : (g : Grammar) (v : List Bool) (p r : ℕ) → IsProductionOf g p r → IsTrue (all_set v (body_of g p)) → HoldsNullable g v → HoldsNullable g (set v r true)
holds_set g v p r h a s k e =
    ⊎_elim
    (λ (same : k ≡ r). rw same (by_body p h (nullable_from_set v (body_of g p) s a)))
    (λ (other : k ≢ r). s k (rw get_or-set_other at e))
    (cases_eq k r)

of_one_rule : (o : Option Production) (a b : ℕ) → IsOfRule o a → IsOfRule o b → a ≡ b
of_one_rule None a b h k = absurd h
of_one_rule (Some p) a b h k = sym h ∙ k

-- a production has one rule
pub one_rule : (g : Grammar) (p a b : ℕ) → IsProductionOf g p a → IsProductionOf g p b → a ≡ b
one_rule g p a b h k = of_one_rule (slice_get g.productions p) a b h k

-- one production more
pub closed_below_more :
    (g : Grammar) (v : List Bool) (i s : ℕ) → IsClosedUnderBodiesBelow g v i → IsProductionOf g i s → (IsTrue (all_set v (body_of g i)) → IsTrue (bit v s))
    → IsClosedUnderBodiesBelow g v (i + 1)
closed_below_more g v i s c h f p r lt k a =
    ⊎_elim
    (λ (same : p ≡ i). rw (one_rule g i r s (rw same at k) h) (f (rw same at a)))
    (λ (other : p ≢ i). c p r (omega arith) k a)
    (cases_eq p i)

of_rule_below : (ps : List Production) (p r : ℕ) → IsOfRule (slice_get ps p) r → p < length ps
of_rule_below [] p r h = absurd h
of_rule_below (q ∷ ps) zero r h = omega arith
of_rule_below (q ∷ ps) (suc p) r h = omega (arith, of_rule_below ps p r h)

-- a production is below their number
pub below_from_rule : (g : Grammar) (p r : ℕ) → IsProductionOf g p r → p < length g.productions
below_from_rule g p r h = of_rule_below g.productions p r h

pub closed_from_below : (g : Grammar) (v : List Bool) (n : ℕ) → length g.productions ≤ n → IsClosedUnderBodiesBelow g v n → IsClosedUnderBodies g v
closed_from_below g v n all c p r h a = c p r (omega (arith, below_from_rule g p r h)) h a

-- where both hold, the set bits are the nullable rules
pub nullable_bits : (g : Grammar) (v : List Bool) → HoldsNullable g v → IsClosedUnderBodies g v → (r : ℕ) → IsTrue (bit v r) ↔ Nullable g r
nullable_bits g v s c r = (s r, set_from_closed v c)
