-- Parts that no cause refuses: their numbers are small, their names differ, and their grammar is in bounds.
use Rattle.std.proofs.Common.{◌≡◌, ◌⊎◌, ℕ, zero, suc, ◌+◌, ◌<◌, ◌≤◌, List, [], ◌∷◌, length, map, get_or, Option, None, Some, refl, ap, sym, ◌∙◌, subst, inl, inr, arith}
use Rattle.std.specs.Prelude.{Contains, IfSome, codes, slice_get}
use Rattle.std.proofs.lemmas.List.{length-map, get_or_default}
use Rattle.lrspec.specs.grammars.Grammar.{Grammar, Production, Precedence, IsGrammar, IsOfRule}
use Rattle.lrspec.specs.texts.Parts.{Parts, IsOutOfRange, NoCause, HasDouble, names_of, grammar_of_parts}
use Rattle.lrspec.specs.texts.Parts as part
use Rattle.lrspec.proofs.texts.GrammarOfParts.{bodies_from_parts, length-productions}
use Rattle.lrtext.specs.declared.parts.GrammarParts.{GrammarParts}
use Rattle.lrtext.specs.declared.parts.PartSymbol.{PartSymbol}
use Rattle.lrtext.specs.declared.parts.PartSymbol.TheVariants.{Rule, Token}
use Rattle.lrtext.specs.StoredParts.{parts_of, part_production_of, part_symbol_of}
use Rattle.lrgrammar.specs.PartNumbers.{AreSmall, part_number}
use Rattle.lrgrammar.specs.GrammarSizes.{IsWithin}
use Rattle.lrparts.proofs.Images.{any_image}
use Rattle.lrgrammar.proofs.ProductionLists.{production_at}

-- the number of a symbol that is in range
small_symbol : (most : ℕ) (ps : GrammarParts) → NoCause most (parts_of ps) → (s : PartSymbol) → (IsOutOfRange (parts_of ps) (part_symbol_of s) → ⊥) → part_number s ≤ most
small_symbol most ps never (Rule r) inside =
    let few : most < length (parts_of ps).rules + 1 → ⊥ = (λ h. never 1 (part.Cause.too_many_rules h)) in omega arith
small_symbol most ps never (Token t) inside =
    let few : most < length (parts_of ps).tokens + 1 → ⊥ = (λ h. never 2 (part.Cause.too_many_tokens h)) in omega arith

-- the number of a token that is named for a precedence, where it is in range
small_named : (most : ℕ) (ps : GrammarParts) → NoCause most (parts_of ps) → (o : Option ℕ) → (part.IsNamedOutOfRange (parts_of ps) o → ⊥) → IfSome o (λ t. t ≤ most)
small_named most ps never None inside = tt
small_named most ps never (Some t) inside = small_symbol most ps never (Token t) inside

-- where no cause of refusal holds, the numbers are small
pub small_from_no_cause : (most : ℕ) (ps : GrammarParts) → NoCause most (parts_of ps) → AreSmall most ps
small_from_no_cause most ps never =
    let few : most < length (parts_of ps).rules + 1 → ⊥ = (λ h. never 1 (part.Cause.too_many_rules h)) in
    let has_start : length (parts_of ps).rules ≤ ps.start → ⊥ = (λ h. never 10 (part.Cause.no_start h)) in
    let P = part.HasOutOfRange (parts_of ps) in
    record {
      rules = λ k d l.
          let x = get_or ps.prods.items k d in
          let low : length (parts_of ps).rules ≤ x.rule → ⊥ = (λ h. never 5 (part.Cause.symbol_out_of_range (any_image part_production_of P ps.prods.items ps.prods.items k x refl l (get_or_default ps.prods.items k d x l) (inl h)))) in
          omega arith;
      symbols = λ k d l j e m.
          let x = get_or ps.prods.items k d in
          let s = get_or x.symbols.items j e in
          small_symbol most ps never s
          (λ h. never 5 (part.Cause.symbol_out_of_range (any_image part_production_of P ps.prods.items ps.prods.items k x refl l (get_or_default ps.prods.items k d x l) (inr (inl (any_image part_symbol_of (IsOutOfRange (parts_of ps)) x.symbols.items x.symbols.items j s refl m (get_or_default x.symbols.items j e s m) h))))));
      named = λ k d l.
          let x = get_or ps.prods.items k d in
          small_named most ps never x.precedence
          (λ h. never 5 (part.Cause.symbol_out_of_range (any_image part_production_of P ps.prods.items ps.prods.items k x refl l (get_or_default ps.prods.items k d x l) (inr (inr h)))));
      start = omega arith;
    }

-- a name at the front is there twice only if it is among the others or they have a double
double_tail : (name : List ℕ) (names : List (List ℕ)) → HasDouble (name ∷ names) → Contains names name ⊎ HasDouble names
double_tail name names (zero, zero, l, m, e) = absurd (omega arith)
double_tail name names (zero, suc j, l, m, e) =
    let inside : j < length names = omega arith in inl (j, inside, get_or_default names j name [] inside ∙ sym e)
double_tail name names (suc i, zero, l, m, e) = absurd (omega arith)
double_tail name names (suc i, suc j, l, m, e) = inr (i, j, omega arith, omega arith, e)

-- where no cause of refusal holds, the names of the rules are all different, `^` among them
pub no_double_rule : (most : ℕ) (ps : Parts) → NoCause most ps → HasDouble (codes "^" ∷ ps.rules) → ⊥
no_double_rule most ps never h =
    elim (double_tail (codes "^") ps.rules h) [ inl c ↦ never 7 (part.Cause.reserved_name c) | inr d ↦ never 8 (part.Cause.duplicate_name (inl d)) ]

pub no_double_token : (most : ℕ) (ps : Parts) → NoCause most ps → HasDouble (names_of ps.tokens) → ⊥
no_double_token most ps never h = never 8 (part.Cause.duplicate_name (inr h))

-- where no cause of refusal holds, the indices can count what there is
pub sizes_from_no_cause : (most : ℕ) (ps : Parts) → 1 ≤ most → NoCause most ps → IsWithin most (grammar_of_parts ps)
sizes_from_no_cause most ps one never =
    let few_rules : most < length ps.rules + 1 → ⊥ = (λ h. never 1 (part.Cause.too_many_rules h)) in
    let few_tokens : most < length ps.tokens + 1 → ⊥ = (λ h. never 2 (part.Cause.too_many_tokens h)) in
    let few_prods : most < length ps.prods + 1 → ⊥ = (λ h. never 3 (part.Cause.too_many_productions h)) in
    record {
      rules = omega arith;
      tokens = omega (arith, length-map ps.tokens (λ t. t.name));
      productions = omega (arith, length-productions ps);
      bodies = bodies_from_parts most ps one never;
    }

-- the rules of productions that are those of a grammar; `ys` are the productions, and `n` counts the rules
pub rules_within : {X : Type 0} (f : X → Production) (g : Grammar) (xs ys : List X) (n : ℕ) → IsGrammar g → map f xs ≡ g.productions → ys ≡ xs → length g.rule_names ≡ n → (k : ℕ) (d : X) → k < length ys → (f (get_or ys k d)).rule < n
rules_within f g xs ys n is same ys_are count k d l =
    let x = get_or ys k d in
    let at = production_at f ys k x l (get_or_default ys k d x l) in
    let below = is.rules k (f x).rule (subst (λ o. IsOfRule o (f x).rule) (sym (ap (λ zs. slice_get zs k) (sym (ap (map f) ys_are ∙ same)) ∙ at)) refl) in
    omega (arith, below)

-- a grammar by its fields
abbrev by_fields : List (List ℕ) → List (List ℕ) → List (Option Precedence) → List Production → ℕ → Grammar
by_fields rs ts os ps s =
    record { rule_names = rs; token_names = ts; token_precedences = os; productions = ps; start_production = s }

pub same_grammar : (g : Grammar) (rs ts : List (List ℕ)) (os : List (Option Precedence)) (ps : List Production) (s : ℕ) → rs ≡ g.rule_names → ts ≡ g.token_names → os ≡ g.token_precedences → ps ≡ g.productions → s ≡ g.start_production → by_fields rs ts os ps s ≡ g
same_grammar g rs ts os ps s a b c d e =
    ap (λ x. by_fields x ts os ps s) a ∙ ap (λ x. by_fields g.rule_names x os ps s) b ∙ ap (λ x. by_fields g.rule_names g.token_names x ps s) c ∙ ap (λ x. by_fields g.rule_names g.token_names g.token_precedences x s) d ∙ ap (λ x. by_fields g.rule_names g.token_names g.token_precedences g.productions x) e

-- there is room for one production more
pub room : (most : ℕ) (ps : GrammarParts) → NoCause most (parts_of ps) → length ps.prods.items + 1 ≤ most
room most ps never =
    let few : most < length (parts_of ps).prods + 1 → ⊥ = (λ h. never 3 (part.Cause.too_many_productions h)) in
    omega (arith, length-map ps.prods.items part_production_of)
