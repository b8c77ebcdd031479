-- names of rules and tokens, of those that there are and of others
use Rattle.std.proofs.Common.{◌≡◌, ℕ, ◌≤◌, [], length, Option, None, Some, List, unwrap_or, refl, sym, ap, ◌∙◌}
use Rattle.std.specs.Prelude.{codes}
use Rattle.std.specs.List.{slice_get, slice_index_or}
use Rattle.std.specs.Option.{option_map}
use Rattle.std.proofs.lemmas.List.{get_or_past}
use Rattle.std.proofs.lemmas.Option.{unwrap_or-slice_get, get_or_from_slice_get, slice_get_past}
use Rattle.lrspec.specs.grammars.Grammar.{Grammar, IsGrammar, IsProductionOf, body_of, rule_of, body_or_none, rule_or_zero}
use Rattle.lrspec.specs.texts.PrintedTexts.{rule_name, token_name, production_text}
use Rattle.lrspec.proofs.grammars.BodyFacts.{rule_of_production}

-- what is read of an element of a list, or of something else where there is none
pub read_or : {X Y : Type 0} (f : X → Y) (ys : List Y) (i : ℕ) (o : Option X) (d x : X) → x ≡ unwrap_or o d → option_map f o ≡ slice_get ys i → f x ≡ slice_index_or ys i (f d)
read_or {X} {Y} f ys i o d x e h = ap f e ∙ go o ∙ ap (λ p. unwrap_or p (f d)) h ∙ unwrap_or-slice_get ys i (f d)
  where
    go : (p : Option X) → f (unwrap_or p d) ≡ unwrap_or (option_map f p) (f d)
    go None = refl
    go (Some y) = refl

module _ (g : Grammar) where
  -- the name of the end token and of what is none
  pub no_token : (t : ℕ) → length g.token_names ≤ t → codes "$" ≡ token_name g t
  no_token t l = sym (get_or_past g.token_names t (codes "$") l)

  -- the name of a rule that there is, and of another
  pub rule_read : (r : ℕ) (w : List ℕ) → Some w ≡ slice_get g.rule_names r → w ≡ rule_name g r
  rule_read r w e = sym (get_or_from_slice_get g.rule_names r w [] (sym e))

  pub no_rule : (r : ℕ) → length g.rule_names ≤ r → [] ≡ rule_name g r
  no_rule r l = sym (get_or_past g.rule_names r [] l)

  -- the name of the rule of a production that there is, and of another
  pub rule_of_read : (p r : ℕ) (w : List ℕ) → IsProductionOf g p r → Some w ≡ slice_get g.rule_names r → w ≡ rule_name g (rule_of g p)
  rule_of_read p r w h e = rw (rule_of_production g p r h) (rule_read r w e)

  pub no_rule_of : (p : ℕ) → IsGrammar g → length g.productions ≤ p → codes "^" ≡ rule_name g (rule_of g p)
  no_rule_of p s l =
      let zeroth : rule_of g p ≡ 0 = ap rule_or_zero (slice_get_past g.productions p l) in
      rw zeroth (rule_read 0 (codes "^") (sym s.caret))

  -- the body of what is no production, and its text
  pub no_body : (p : ℕ) → length g.productions ≤ p → [] ≡ body_of g p
  no_body p l = sym (ap body_or_none (slice_get_past g.productions p l))

  pub no_text : (p : ℕ) → IsGrammar g → length g.productions ≤ p → codes "^:" ≡ production_text g p
  no_text p s l = rw (← no_body p l, ← no_rule_of p s l) refl
