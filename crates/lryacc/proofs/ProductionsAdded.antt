-- productions of bodies are added
use Rattle.std.proofs.Common.{◌≡◌, ℕ, List, [], ◌∷◌, ◌++◌, map, flat_map, refl, ap, sym, ◌∙◌, subst, arith}
use Rattle.std.proofs.lemmas.Grind.{flat_map-append}
use Rattle.std.proofs.lemmas.List.{append-nil, append_assoc, length-append, map-append}
use Rattle.lrgrammar.specs.declared.grammar.PartProd.{PartProd}
use Rattle.lrgrammar.specs.declared.grammar.PartSymbol.{PartSymbol}
use Rattle.lryacc.specs.declared.contents.BodyPart.TheVariants as part
use Rattle.lryacc.specs.declared.contents.Contents.{Contents}
use Rattle.lryacc.specs.declared.lexemes.Lexeme.{Lexeme}
use Rattle.std.specs.Prelude.{Option}
use Rattle.lryacc.specs.declared.meaning.Meaning.{Meaning}
use Rattle.lryacc.specs.declared.numbering.FileGrammar.{FileGrammar}
use Rattle.lryacc.specs.declared.places.Span.{Span}
use Rattle.lryacc.specs.declared.productions.Productions.{Productions}
use Rattle.lryacc.specs.NamedSymbols.{Names, names_in}
use Rattle.lryacc.specs.ProductionPlaces.{Adds}
use Rattle.lryacc.specs.BodyProductions.{AddsProduction, AddsProductions, AreMade, AreRelated, IsEmptyProduction, IsOfPartBefore}
use Rattle.lryacc.specs.BodyProductions.AreMade.{more as more_made}
use Rattle.lryacc.specs.BodyProductions.AreRelated.{more as more_related}

-- no production is added
pub none_added : (P : List PartProd → Type 0) (all : Productions) → P [] → AddsProductions all all P
none_added P all is = record {
  added = [];
  prods = sym (append-nil all.prods.items);
  are = is;
}

-- the production of an action is added
pub one_added : (names : Names) (old new : Productions) (action : Lexeme) (name : Option Lexeme) → AddsProduction old new (IsEmptyProduction names action) → AddsProductions old new (IsOfPartBefore names (part.Action action name))
one_added names old new action name one = record {
  added = one.prod ∷ [];
  prods = one.prods;
  are = (one.prod, one.is, refl);
}

-- what one more element makes is added
pub made-added : {A : Type 0} (R : A → List PartProd → Type 0) (old now new : Productions) (all all' : List A) (x : A) → all' ≡ all ++ x ∷ [] → AddsProductions old now (AreMade R all) → AddsProductions now new (R x) → AddsProductions old new (AreMade R all')
made-added {A} R old now new all all' x more adds one = record {
  added = adds.added ++ one.added;
  prods = one.prods ∙ ap (λ (ps : List PartProd). ps ++ one.added) adds.prods ∙ append_assoc old.prods.items adds.added one.added;
  are = subst (λ (xs : List A). AreMade R xs (adds.added ++ one.added)) (sym more) (more_made x one.added adds.are one.are);
}

-- the production of one more element is added
pub related-added : {A : Type 0} (R : A → PartProd → Type 0) (old now new : Productions) (all all' : List A) (x : A) → all' ≡ all ++ x ∷ [] → AddsProductions old now (AreRelated R all) → AddsProduction now new (R x) → AddsProductions old new (AreRelated R all')
related-added {A} R old now new all all' x more adds one = record {
  added = adds.added ++ one.prod ∷ [];
  prods = one.prods ∙ ap (λ (ps : List PartProd). ps ++ one.prod ∷ []) adds.prods ∙ append_assoc old.prods.items adds.added (one.prod ∷ []);
  are = subst (λ (xs : List A). AreRelated R xs (adds.added ++ one.prod ∷ [])) (sym more) (more_related x one.prod adds.are one.is);
}

-- one more is related to one more
pub related-more : {A B : Type 0} (R : A → B → Type 0) (xs xs' : List A) (ys ys' : List B) (x : A) (y : B) → xs' ≡ xs ++ x ∷ [] → ys' ≡ ys ++ y ∷ [] → AreRelated R xs ys → R x y → AreRelated R xs' ys'
related-more {A} {B} R xs xs' ys ys' x y d e all one =
    subst (λ (zs : List A). AreRelated R zs ys') (sym d) (subst (λ (zs : List B). AreRelated R (xs ++ x ∷ []) zs) (sym e) (more_related x y all one))

-- the image of one more
pub image-more : {A B : Type 0} (f : A → B) (xs xs' : List A) (ys ys' : List B) (x : A) → xs' ≡ xs ++ x ∷ [] → ys' ≡ ys ++ f x ∷ [] → ys ≡ map f xs → ys' ≡ map f xs'
image-more {A} {B} f xs xs' ys ys' x d e so_far =
    e ∙ (ap (λ (zs : List B). zs ++ f x ∷ []) so_far ∙ (sym (map-append f xs (x ∷ [])) ∙ ap (map f) (sym d)))

-- no place is added
pub no-place : (all : Productions) → Adds all all []
no-place all = record {
  places = sym (append-nil all.places.items);
  count = omega arith;
  symbol_places = omega arith;
}

-- places are added, and then others
places-again : (old now new : Productions) (xs ys : List Span) → Adds old now xs → Adds now new ys → Adds old new (xs ++ ys)
places-again old now new xs ys one other = record {
  places = other.places ∙ ap (λ (ps : List Span). ps ++ ys) one.places ∙ append_assoc old.places.items xs ys;
  count = omega (arith, one.count, other.count, length-append xs ys);
  symbol_places = omega (arith, one.symbol_places, other.symbol_places, length-append xs ys);
}

-- the place of one more element
pub places-mapped : {A : Type 0} (f : A → Span) (old now new : Productions) (xs xs' : List A) (x : A) → xs' ≡ xs ++ x ∷ [] → Adds old now (map f xs) → Adds now new (f x ∷ []) → Adds old new (map f xs')
places-mapped f old now new xs xs' x more one other =
    subst (Adds old new) (sym (ap (map f) more ∙ map-append f xs (x ∷ []))) (places-again old now new (map f xs) (f x ∷ []) one other)

-- the places of one more element
pub places-made : {A : Type 0} (f : A → List Span) (old now new : Productions) (xs xs' : List A) (x : A) → xs' ≡ xs ++ x ∷ [] → Adds old now (flat_map f xs) → Adds now new (f x) → Adds old new (flat_map f xs')
places-made f old now new xs xs' x more one other =
    let last : flat_map f (x ∷ []) ≡ f x = append-nil (f x) in
    subst (Adds old new) (sym (ap (flat_map f) more ∙ flat_map-append f xs (x ∷ []) ∙ ap (λ (ps : List Span). flat_map f xs ++ ps) last))
    (places-again old now new (flat_map f xs) (f x) one other)

-- the names of a grammar are those of its rules and tokens
pub names-same : (m m' : Meaning) (c c' : Contents) (symbol : ℕ → Option PartSymbol) (f f' : FileGrammar) → m' ≡ m → c' ≡ c → f'.parts.rules.items ≡ f.parts.rules.items → f'.parts.tokens.items ≡ f.parts.tokens.items → f'.rule_places.items ≡ f.rule_places.items → names_in m c symbol f ≡ names_in m' c' symbol f'
names-same m m' c c' symbol f f' same said rules tokens places = rw (same, said, rules, tokens, places) refl
