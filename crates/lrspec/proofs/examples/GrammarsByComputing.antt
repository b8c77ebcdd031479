-- a grammar has the shape where a test says so
use Rattle.std.proofs.Common.{◌≡◌, ℕ, zero, suc, ◌<◌, Bool, true, ◌&&◌, List, [], ◌∷◌, ◌++◌, length, codes, refl, sym, ap, ◌∙◌, subst, take, arith, Option, None, Some, length-append}
use Rattle.std.specs.Prelude.{slice_get, nat_lt}
use Rattle.std.proofs.lemmas.Bool.{and_parts, ltb-true}
use Rattle.lrspec.specs.grammars.Grammar.{Symbol, Rule, Token, Production, Grammar, IsGrammar, IsOfRule, IsBodySymbol, AreBodySymbols, body_or_none, named_token_or_none}

-- whether the symbol may stand in a body
abbrev pub test_symbol : Grammar → Symbol → Bool
test_symbol g (Rule r) = nat_lt 0 r && nat_lt r (length g.rule_names)
test_symbol g (Token t) = nat_lt t (length g.token_names)

abbrev pub test_symbols : Grammar → List Symbol → Bool
test_symbols g [] = true
test_symbols g (x ∷ xs) = test_symbol g x && test_symbols g xs

-- whether what is named for a precedence, if anything is, is a named token
abbrev pub test_named : Grammar → Option ℕ → Bool
test_named g None = true
test_named g (Some t) = nat_lt t (length g.token_names)

-- whether productions are of rules other than rule 0, with bodies of such symbols, and name such
-- tokens
abbrev pub test_productions : Grammar → List Production → Bool
test_productions g [] = true
test_productions g (p ∷ ps) =
    test_symbol g (Rule p.rule)
    && (test_symbols g p.body && (test_named g p.precedence_token && test_productions g ps))

symbol_from_test : (g : Grammar) (x : Symbol) → test_symbol g x ≡ true → IsBodySymbol g x
symbol_from_test g (Rule r) e =
    let (i, j) = and_parts (nat_lt 0 r) (nat_lt r (length g.rule_names)) e in
    let positive = ltb-true 0 r i in
    (λ z. omega (arith, positive, z), ltb-true r (length g.rule_names) j)
symbol_from_test g (Token t) e = ltb-true t (length g.token_names) e

symbols_from_test : (g : Grammar) (xs : List Symbol) → test_symbols g xs ≡ true → AreBodySymbols g xs
symbols_from_test g [] e = tt
symbols_from_test g (x ∷ xs) e =
    let (i, j) = and_parts (test_symbol g x) (test_symbols g xs) e in
    (symbol_from_test g x i, symbols_from_test g xs j)

module _ (g : Grammar) (r : ℕ) (start : test_symbol g (Rule r) ≡ true) where
  -- the start production
  abbrev start_form : Production
  start_form = record { rule = 0; body = Rule r ∷ []; precedence_token = None }

  parts :
      (p : Production) (ps : List Production) → test_productions g (p ∷ ps) ≡ true
      → IsBodySymbol g (Rule p.rule) × AreBodySymbols g p.body × (test_productions g ps ≡ true)
      × (test_named g p.precedence_token ≡ true)
  parts p ps e =
      let named = test_named g p.precedence_token in
      let others = test_productions g ps in
      let (i, j) = and_parts (test_symbol g (Rule p.rule)) (test_symbols g p.body && (named && others)) e in
      let (k, l) = and_parts (test_symbols g p.body) (named && others) j in
      let (m, n) = and_parts named others l in
      (symbol_from_test g (Rule p.rule) i, symbols_from_test g p.body k, n, m)

  only_last : (ps : List Production) → test_productions g ps ≡ true → (k : ℕ) → IsOfRule (slice_get (ps ++ start_form ∷ []) k) 0 → k ≡ length ps
  only_last [] e zero h = refl
  only_last [] e (suc k) h = absurd h
  only_last (p ∷ ps) e zero h = absurd ((parts p ps e).0.0 h)
  only_last (p ∷ ps) e (suc k) h = ap suc (only_last ps (parts p ps e).2 k h)

  rules_below :
      (ps : List Production) → test_productions g ps ≡ true → (k q : ℕ) → IsOfRule (slice_get (ps ++ start_form ∷ []) k) q → q < length g.rule_names
  rules_below [] e zero q h = let below = (symbol_from_test g (Rule r) start).1 in omega (arith, below, h)
  rules_below [] e (suc k) q h = absurd h
  rules_below (p ∷ ps) e zero q h = let below = (parts p ps e).0.1 in rw h at below
  rules_below (p ∷ ps) e (suc k) q h = rules_below ps (parts p ps e).2 k q h

  bodies : (ps : List Production) → test_productions g ps ≡ true → (k : ℕ) → AreBodySymbols g (body_or_none (slice_get (ps ++ start_form ∷ []) k))
  bodies [] e zero = (symbol_from_test g (Rule r) start, tt)
  bodies [] e (suc k) = tt
  bodies (p ∷ ps) e zero = (parts p ps e).1
  bodies (p ∷ ps) e (suc k) = bodies ps (parts p ps e).2 k

  named_below : (o : Option ℕ) (t : ℕ) → test_named g o ≡ true → o ≡ Some t → t < length g.token_names
  named_below None t e h = absurd (cc)
  named_below (Some u) t e h = let same : u ≡ t = cc in rw (← same) (ltb-true u (length g.token_names) e)

  named_within :
      (ps : List Production) → test_productions g ps ≡ true → (k t : ℕ) → named_token_or_none (slice_get (ps ++ start_form ∷ []) k) ≡ Some t → t < length g.token_names
  named_within [] e zero t h = absurd (cc)
  named_within [] e (suc k) t h = absurd (cc)
  named_within (p ∷ ps) e zero t h = named_below p.precedence_token t (parts p ps e).3 h
  named_within (p ∷ ps) e (suc k) t h = named_within ps (parts p ps e).2 k t h

  last_is : (ps : List Production) → slice_get (ps ++ start_form ∷ []) (length ps) ≡ Some start_form
  last_is [] = refl
  last_is (p ∷ ps) = last_is ps

  -- a grammar of such productions, with the start production after them, has the shape that every grammar has
  pub grammar_from_test :
      slice_get g.rule_names 0 ≡ Some (codes "^") → length g.token_precedences ≡ length g.token_names
      → g.productions ≡ take g.start_production g.productions ++ start_form ∷ [] → g.start_production ≡ length (take g.start_production g.productions)
      → test_productions g (take g.start_production g.productions) ≡ true → IsGrammar g
  grammar_from_test caret precedences are is e =
      let ps = take g.start_production g.productions in
      record {
        caret = caret;
        precedences = precedences;
        last = omega (arith, is, length-append ps (start_form ∷ []), ap length are);
        start = (r, ap (λ l. slice_get l g.start_production) are ∙ (ap (slice_get (ps ++ start_form ∷ [])) is ∙ last_is ps));
        only = λ p h. only_last ps e p (subst (λ l. IsOfRule (slice_get l p) 0) are h) ∙ sym is;
        rules = λ p q h. rules_below ps e p q (subst (λ l. IsOfRule (slice_get l p) q) are h);
        symbols = λ p. subst (λ l. AreBodySymbols g (body_or_none (slice_get l p))) (sym are) (bodies ps e p);
        named = λ p t h. named_within ps e p t (subst (λ l. named_token_or_none (slice_get l p) ≡ Some t) are h);
      }
