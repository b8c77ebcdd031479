-- The walk of a body that adds to a row, symbol by symbol, up to one that is not nullable.
use Rattle.std.proofs.Common.{◌≡◌, ℕ, ◌<◌, Bool, true, false, ◌||◌, ◌&&◌, IsTrue, List, [], ◌∷◌, length, refl, sym, ◌∙◌, arith, ◌⊎◌, inl, inr, ⊎_elim}
use Rattle.std.proofs.lemmas.Bool.{and_parts, both_ways, cases_Bool, or_cases, or_parts, eqb-true}
use Rattle.lrspec.specs.grammars.Grammar.{Symbol, Rule, Token, Grammar, body_of, IsProductionOf, IsBodySymbol, AreBodySymbols}
use Rattle.lrspec.specs.grammars.First.{Begins, here, inside, past}
use Rattle.lrbits.specs.Bits.{bit}
use Rattle.lrgrammar.specs.NullableBits.{HoldsNullable}
use Rattle.lrgrammar.specs.FirstRows.{row, starts_symbol, vanishes, starts, FitsRow, IsRuleBelow, Adds, AreRows, HoldBegins, IsDone, unset_rows}
use Rattle.lrgrammar.proofs.NullableRules.{one_rule}

-- where the walk of the body of `p`, a production of `r`, stands: `left` is left of the body, `x` are the rows
-- before the walk and `y` those now, and `b` says whether there was a change
pub record Walked (g : Grammar) (v : List Bool) (x y : List (List Bool)) (p r : ℕ) (left : List Symbol) (b : Bool) : Type 0 where
  pub in_range : AreBodySymbols g left
  pub shape : AreRows g y
  pub sound : HoldBegins g x → HoldBegins g y
  pub grown : b ≡ true → unset_rows y < unset_rows x
  pub same : b ≡ false → y ≡ x
  pub reach : (t : ℕ) → Begins g left t → Begins g (body_of g p) t
  pub done : b ≡ false → (t : ℕ) → IsTrue (starts v y (body_of g p) t) → IsTrue (bit (row y r) t) ⊎ IsTrue (starts v y left t)

-- a symbol of a body fits the rows
pub fits_from_body : (g : Grammar) (x : List (List Bool)) (r : ℕ) (s : Symbol) → AreRows g x → r < length g.rule_names → IsBodySymbol g s → FitsRow x r s
fits_from_body g x r (Rule q) a h b = (omega (arith, a.rules, b.1), a.tokens q b.1 ∙ sym (a.tokens r h))
fits_from_body g x r (Token t) a h b = omega (arith, a.tokens r h, b)

-- and is a rule of the grammar or a token
pub below_from_body : (g : Grammar) (n : ℕ) (s : Symbol) → n ≡ length g.rule_names → IsBodySymbol g s → IsRuleBelow n s
below_from_body g n (Rule q) e b = omega (arith, b.1)
below_from_body g n (Token t) e b = tt

-- the body lies ahead
pub walked_none : (g : Grammar) (v : List Bool) (x : List (List Bool)) (p r : ℕ) → AreBodySymbols g (body_of g p) → AreRows g x → Walked g v x x p r (body_of g p) false
walked_none g v x p r i a = record {
  in_range = i;
  shape = a;
  sound = λ m. m;
  grown = λ e. cc;
  same = λ e. refl;
  reach = λ t b. b;
  done = λ e t m. inr m;
}

-- what begins a symbol begins a list with it in front
begins_from_symbol : (g : Grammar) (x : List (List Bool)) (s : Symbol) (y : List Symbol) (t : ℕ) → HoldBegins g x → IsTrue (starts_symbol x s t) → Begins g (s ∷ y) t
begins_from_symbol g x (Rule r) y t h b = let e = h r t b in inside e.0 e.1 e.2
begins_from_symbol g x (Token u) y t h b = rw (eqb-true u t b) here

-- what begins a list begins it with a nullable rule in front
begins_past : (g : Grammar) (v : List Bool) (s : Symbol) (y : List Symbol) (t : ℕ) → HoldsNullable g v → vanishes v s ≡ true → Begins g y t → Begins g (s ∷ y) t
begins_past g v (Rule r) y t h e b = past (h r e) b
begins_past g v (Token u) y t h e b = cc

-- one symbol of the body, where the walk goes on with `next`
walked_step :
    (g : Grammar) (v : List Bool) (x y z : List (List Bool)) (p r : ℕ) (s : Symbol) (left next : List Symbol) (b c : Bool) → IsProductionOf g p r
    → AreBodySymbols g next → ((t : ℕ) → Begins g next t → Begins g (body_of g p) t) → ((t : ℕ) → IsTrue (vanishes v s && starts v y left t) → IsTrue (starts v y next t))
    → Walked g v x y p r (s ∷ left) b → Adds y z r s c → Walked g v x z p r next (b || c)
walked_step g v x y z p r s left next b c h i f k w a =
    record {
      in_range = i;
      shape = record { rules = a.rows ∙ w.shape.rules; tokens = λ q l. a.tokens q ∙ w.shape.tokens q l };
      sound = λ m q t e.
          ⊎_elim
          (λ (o : IsTrue (bit (row y q) t)). w.sound m q t o)
          (λ (o : (q ≡ r) × IsTrue (starts_symbol y s t)). rw o.0 (p, h, w.reach t (begins_from_symbol g y s left t (w.sound m) o.1)))
          (a.only q t e);
      grown = λ e.
          ⊎_elim
          (λ (o : b ≡ true).
          ⊎_elim
          (λ (q : c ≡ true). omega (arith, w.grown o, a.grown q))
          (λ (q : c ≡ false). rw (a.same q) (w.grown o))
          (cases_Bool c))
          (λ (o : c ≡ true).
          ⊎_elim
          (λ (q : b ≡ true). omega (arith, w.grown q, a.grown o))
          (λ (q : b ≡ false). rw (← w.same q) (a.grown o))
          (cases_Bool b))
          (or_cases b c e);
      same = λ e. let q = or_parts b c e in a.same q.1 ∙ w.same q.0;
      reach = f;
      done = λ e t m.
          let q = or_parts b c e in
          let n : z ≡ y = a.same q.1 in
          rw n
          (⊎_elim
          (λ (o : IsTrue (bit (row y r) t)). inl o)
          (λ (o : IsTrue (starts v y (s ∷ left) t)).
          ⊎_elim
          (λ (l : IsTrue (starts_symbol y s t)). inl (a.held q.1 t l))
          (λ (l : IsTrue (vanishes v s && starts v y left t)). inr (k t l))
          (or_cases (starts_symbol y s t) (vanishes v s && starts v y left t) o))
          (w.done q.0 t (rw n at m)));
    }

-- past a nullable rule the walk goes on
pub walked_more :
    (g : Grammar) (v : List Bool) (x y z : List (List Bool)) (p r : ℕ) (s : Symbol) (left : List Symbol) (b c : Bool) → IsProductionOf g p r → HoldsNullable g v
    → vanishes v s ≡ true → Walked g v x y p r (s ∷ left) b → Adds y z r s c → Walked g v x z p r left (b || c)
walked_more g v x y z p r s left b c h n e w a =
    walked_step g v x y z p r s left left b c h w.in_range.1 (λ t i. w.reach t (begins_past g v s left t n e i)) (λ t i. (and_parts (vanishes v s) (starts v y left t) i).1) w a

-- and stops at any other symbol
pub walked_stop :
    (g : Grammar) (v : List Bool) (x y z : List (List Bool)) (p r : ℕ) (s : Symbol) (left : List Symbol) (b c : Bool) → IsProductionOf g p r
    → vanishes v s ≡ false → Walked g v x y p r (s ∷ left) b → Adds y z r s c → Walked g v x z p r [] (b || c)
walked_stop g v x y z p r s left b c h e w a =
    walked_step g v x y z p r s left [] b c h tt (λ t i. elim i [ ]) (λ t i. absurd (both_ways _ e (and_parts (vanishes v s) (starts v y left t) i).0)) w a

-- nothing left: without a change, what begins the body is set in the row of its rule
pub walked_all :
    (g : Grammar) (v : List Bool) (x y : List (List Bool)) (p r : ℕ) (b : Bool) → IsProductionOf g p r → Walked g v x y p r [] b → b ≡ false → (q : ℕ) → IsProductionOf g p q
    → IsDone g v y p q
walked_all g v x y p r b h w e q k t s =
    ⊎_elim
    (λ (o : IsTrue (bit (row y r) t)). rw (one_rule g p q r k h) o)
    (λ (o : IsTrue (starts v y [] t)). cc)
    (w.done e t s)
