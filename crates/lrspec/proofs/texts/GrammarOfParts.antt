-- parts that nothing stands against make a grammar
use Rattle.std.proofs.Common.{◌≡◌, ℕ, zero, suc, ◌+◌, ◌<◌, ◌≤◌, List, [], ◌∷◌, ◌++◌, map, length, Option, None, Some, refl, ap, sym, ◌∙◌, inl, inr, arith, length-append}
use Rattle.std.specs.Prelude.{slice_get, Any}
use Rattle.std.proofs.lemmas.List.{length-map}
use Rattle.std.proofs.lemmas.Option.{slice_get_within, get_or_from_slice_get}
use Rattle.lrspec.specs.grammars.Grammar.{Symbol, Rule, Token, Production, IsGrammar, IsOfRule, IsBodySymbol, AreBodySymbols, body_of, body_or_none, named_token_or_none}
use Rattle.lrspec.specs.texts.Parts.{Parts, names_of, precedences_of, shifted, shifted_production, start_production_of, grammar_of_parts, IsOutOfRange, IsNamedOutOfRange, HasOutOfRange, NoCause, Cause}
use Rattle.lrspec.specs.texts.Parts as parts

-- what holds of no place, of the last element and of each mapped element before it holds at every place
pub at_each_place : {X Y : Type 0} (f : X → Y) (xs : List X) (y : Y) (P : ℕ → Option Y → Type 0) → ((p : ℕ) → P p None) → P (length xs) (Some y) → ((k : ℕ) (x : X) → slice_get xs k ≡ Some x → P k (Some (f x))) → (p : ℕ) → P p (slice_get (map f xs ++ y ∷ []) p)
at_each_place f [] y P none last each zero = last
at_each_place f [] y P none last each (suc p) = none (suc p)
at_each_place f (x ∷ xs) y P none last each zero = each zero x refl
at_each_place f (x ∷ xs) y P none last each (suc p) =
    at_each_place f xs y (λ k o. P (suc k) o) (λ k. none (suc k)) last (λ k. each (suc k)) p

slice_get_last : {X Y : Type 0} (f : X → Y) (xs : List X) (y : Y) → slice_get (map f xs ++ y ∷ []) (length xs) ≡ Some y
slice_get_last f [] y = refl
slice_get_last f (x ∷ xs) y = slice_get_last f xs y

-- what no element of a list has, the element at a place has not
pub none_at : {X : Type 0} (P : X → Type 0) (xs : List X) (k : ℕ) (x : X) → (Any P xs → ⊥) → slice_get xs k ≡ Some x → P x → ⊥
none_at P xs k x never at h = never (k, x, slice_get_within xs k x at, get_or_from_slice_get xs k x x at, h)

-- what no element of a list has, none of its tail has
none_in_tail : {X : Type 0} (P : X → Type 0) (x : X) (xs : List X) → (Any P (x ∷ xs) → ⊥) → Any P xs → ⊥
none_in_tail P x xs never (k, y, within, is, h) = never (suc k, y, omega arith, is, h)

symbol_in_range : (ps : Parts) (x : Symbol) → (IsOutOfRange ps x → ⊥) → IsBodySymbol (grammar_of_parts ps) (shifted x)
symbol_in_range ps (Rule r) never = (omega arith, omega arith)
symbol_in_range ps (Token t) never = omega (arith, length-map ps.tokens (λ t. t.name))

symbols_in_range : (ps : Parts) (xs : List Symbol) → (Any (IsOutOfRange ps) xs → ⊥) → AreBodySymbols (grammar_of_parts ps) (map shifted xs)
symbols_in_range ps [] never = tt
symbols_in_range ps (x ∷ xs) never =
    (symbol_in_range ps x (none_at (IsOutOfRange ps) (x ∷ xs) 0 x never refl), symbols_in_range ps xs (none_in_tail (IsOutOfRange ps) x xs never))

named_in_range : (ps : Parts) (o : Option ℕ) (t : ℕ) → (IsNamedOutOfRange ps o → ⊥) → o ≡ Some t → t < length (grammar_of_parts ps).token_names
named_in_range ps None t never e = absurd (cc)
named_in_range ps (Some u) t never e =
    let same : u ≡ t = cc in
    let low : length ps.tokens ≤ u → ⊥ = never in omega (arith, low, length-map ps.tokens (λ t. t.name))

-- the productions of a grammar of parts, at every place
at_each_production : (ps : Parts) (P : ℕ → Option Production → Type 0) → ((p : ℕ) → P p None) → P (length ps.prods) (Some (start_production_of ps)) → ((k : ℕ) (x : Production) → slice_get ps.prods k ≡ Some x → P k (Some (shifted_production x))) → (p : ℕ) → P p (slice_get (grammar_of_parts ps).productions p)
at_each_production ps P none last each = at_each_place shifted_production ps.prods (start_production_of ps) P none last each

-- where no cause of refusal holds, the parts make a grammar
pub grammar_from_parts : (most : ℕ) (ps : Parts) → NoCause most ps → IsGrammar (grammar_of_parts ps)
grammar_from_parts most ps never =
    let g = grammar_of_parts ps in
    let in_range = λ (k : ℕ) (x : Production) (at : slice_get ps.prods k ≡ Some x).
    none_at (HasOutOfRange ps) ps.prods k x (λ h. never 5 (parts.Cause.symbol_out_of_range h)) at in
    let start_in : ps.start < length ps.rules = let h : length ps.rules ≤ ps.start → ⊥ = (λ h. never 10 (parts.Cause.no_start h)) in omega arith in
    record {
      caret = refl;
      precedences = length-map ps.tokens (λ t. t.precedence) ∙ sym (length-map ps.tokens (λ t. t.name));
      last = omega (arith, length-append (map shifted_production ps.prods) (start_production_of ps ∷ []), length-map ps.prods shifted_production);
      start = (ps.start + 1, slice_get_last shifted_production ps.prods (start_production_of ps));
      only = at_each_production ps (λ p o. IsOfRule o 0 → p ≡ length ps.prods) (λ p h. absurd h) (λ h. refl) (λ k x at h. absurd (omega arith));
      rules = λ p r. at_each_production ps (λ p o. IsOfRule o r → r < length g.rule_names) (λ p h. absurd h) (λ h. omega arith) (λ k x at h. let low : length ps.rules ≤ x.rule → ⊥ = (λ l. in_range k x at (inl l)) in omega arith) p;
      symbols = at_each_production ps (λ p o. AreBodySymbols g (body_or_none o)) (λ p. tt) ((omega arith, omega arith), tt) (λ k x at. symbols_in_range ps x.body (λ h. in_range k x at (inr (inl h))));
      named = λ p t. at_each_production ps (λ p o. named_token_or_none o ≡ Some t → t < length g.token_names) (λ p h. absurd (cc)) (λ h. absurd (cc)) (λ k x at. named_in_range ps x.precedence_token t (λ h. in_range k x at (inr (inr h)))) p;
    }

-- where no cause of refusal holds, no body has more than `most` symbols
pub bodies_from_parts : (most : ℕ) (ps : Parts) → 1 ≤ most → NoCause most ps → (p : ℕ) → length (body_of (grammar_of_parts ps) p) ≤ most
bodies_from_parts most ps one never =
    at_each_production ps (λ p o. length (body_or_none o) ≤ most) (λ p. omega arith) one
    (λ k x at. let short : most < length x.body → ⊥ = none_at (λ p. most < length p.body) ps.prods k x (λ h. never 4 (parts.Cause.body_too_long h)) at in
    omega (arith, length-map x.body shifted))

-- how many productions a grammar of parts has
pub length-productions : (ps : Parts) → length (grammar_of_parts ps).productions ≡ length ps.prods + 1
length-productions ps = length-append (map shifted_production ps.prods) (start_production_of ps ∷ []) ∙ ap (λ n. n + 1) (length-map ps.prods shifted_production)
