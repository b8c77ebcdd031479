-- names of tokens and rules, and the symbols of a body in parts
use Rattle.std.proofs.Common.{◌≡◌, ℕ, zero, suc, ◌+◌, ◌<◌, ◌≤◌, List, [], ◌∷◌, ◌++◌, append_assoc, length, map, get_or, take, drop, Option, None, Some, unwrap_or, refl, sym, ap, ◌∙◌, arith}
use Rattle.std.specs.Prelude.{codes}
use Rattle.std.specs.List.{slice_get}
use Rattle.std.specs.Option.{option_map}
use Rattle.std.proofs.lemmas.List.{length-map, take-map, drop-map, take_more, map-append, flat_map_more}
use Rattle.std.proofs.lemmas.Option.{unwrap_or-slice_get, get_or_from_slice_get}
use Rattle.lrspec.specs.grammars.Grammar.{Symbol, Grammar, IsProductionOf, IsBodySymbol, AreBodySymbols, rule_of}
use Rattle.lrspec.specs.texts.PrintedTexts.{rule_name, symbol_text, spaced}
use Rattle.lrclosing.proofs.SymbolsBehindDots.{symbols_behind}
use Rattle.lrspec.proofs.grammars.BodyFacts.{rule_of_production}

-- what is read of an element of a list, or of something else where there is none
pub read_or : {X Y : Type 0} (f : X → Y) (ys : List Y) (i : ℕ) (o : Option X) (d x : X) → x ≡ unwrap_or o d → option_map f o ≡ slice_get ys i → f x ≡ get_or ys i (f d)
read_or {X} {Y} f ys i o d x e h = ap f e ∙ go o ∙ ap (λ p. unwrap_or p (f d)) h ∙ unwrap_or-slice_get ys i (f d)
  where
    go : (p : Option X) → f (unwrap_or p d) ≡ unwrap_or (option_map f p) (f d)
    go None = refl
    go (Some y) = refl

-- the name of the rule of a production
pub name_of_rule : (g : Grammar) (p r : ℕ) (w : List ℕ) → IsProductionOf g p r → Some w ≡ slice_get g.rule_names r → w ≡ rule_name g (rule_of g p)
name_of_rule g p r w h e = rw (rule_of_production g p r h) (sym (get_or_from_slice_get g.rule_names r w [] (sym e)))

-- a symbol of a body by its place
pub body_symbol_at :
    {X : Type 0} (g : Grammar) (f : X → Symbol) (xs : List X) (i : ℕ) (x : X) → AreBodySymbols g (map f xs) → i < length xs → x ≡ get_or xs i x → IsBodySymbol g (f x)
body_symbol_at g f [] i x s l e = absurd (omega arith)
body_symbol_at g f (y ∷ ys) zero x s l e = rw e s.0
body_symbol_at g f (y ∷ ys) (suc i) x s l e = body_symbol_at g f ys i x s.1 (omega arith) e

-- the symbols before a place
symbols_before : (g : Grammar) (n : ℕ) (y : List Symbol) → AreBodySymbols g y → AreBodySymbols g (take n y)
symbols_before g zero y s = tt
symbols_before g (suc n) [] s = tt
symbols_before g (suc n) (x ∷ y) s = (s.0, symbols_before g n y s.1)

-- the images of what stands before a place and behind it
pub mapped_front : {X Y : Type 0} (f : X → Y) (xs front : List X) (ys : List Y) (n : ℕ) → map f xs ≡ ys → front ≡ take n xs → map f front ≡ take n ys
mapped_front f xs front ys n e h = rw (h, ← e) (sym (take-map f n xs))

pub mapped_back : {X Y : Type 0} (f : X → Y) (xs back : List X) (ys : List Y) (n : ℕ) → map f xs ≡ ys → back ≡ drop n xs → map f back ≡ drop n ys
mapped_back f xs back ys n e h = rw (h, ← e) (sym (drop-map f n xs))

-- the symbols of a body before a place, as the code has them, and those behind it
pub front_symbols :
    {X : Type 0} (g : Grammar) (f : X → Symbol) (xs front : List X) (ys : List Symbol) (n : ℕ) → AreBodySymbols g ys → map f xs ≡ ys → front ≡ take n xs → AreBodySymbols g (map f front)
front_symbols g f xs front ys n s e h = rw (mapped_front f xs front ys n e h) (symbols_before g n ys s)

pub back_symbols :
    {X : Type 0} (g : Grammar) (f : X → Symbol) (xs back : List X) (ys : List Symbol) (n : ℕ) → AreBodySymbols g ys → map f xs ≡ ys → back ≡ drop n xs → AreBodySymbols g (map f back)
back_symbols g f xs back ys n s e h = rw (mapped_back f xs back ys n e h) (symbols_behind g n ys s)

-- a dot within the body is within the symbols of which the body is made
pub dot_within :
    {X : Type 0} (f : X → Symbol) (xs : List X) (body : List Symbol) (d n : ℕ) → map f xs ≡ body → n ≡ d → d ≤ length body → n ≤ length xs
dot_within f xs body d n e k l = omega (arith, sym (length-map xs f) ∙ ap length e, k, l)

-- one symbol more, behind a space
pub spaced_turn :
    {X : Type 0} (g : Grammar) (f : X → Symbol) (xs : List X) (i : ℕ) (x : X) (first before space after : List ℕ) → i < length xs → x ≡ get_or xs i x
    → before ≡ first ++ spaced g (map f (take i xs)) → space ≡ before ++ codes " " → after ≡ space ++ symbol_text g (f x)
    → after ≡ first ++ spaced g (map f (take (i + 1) xs))
spaced_turn g f xs i x first before space after l at b p q =
    let name = symbol_text g (f x) in
    let piece : Symbol → List ℕ = λ y. codes " " ++ symbol_text g y in
    let more : take (i + 1) xs ≡ take i xs ++ x ∷ [] = take_more xs i x l ∙ ap (λ y. take i xs ++ y ∷ []) (sym at) in
    rw (more, map-append f (take i xs) (x ∷ []))
    (q ∙ ap (λ t. t ++ name) p ∙ append_assoc before (codes " ") name ∙ ap (λ t. t ++ piece (f x)) b ∙ flat_map_more piece first (map f (take i xs)) (f x))
