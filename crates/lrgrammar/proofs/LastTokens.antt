-- The last token of a list of symbols, one symbol more at a time.
use Rattle.std.proofs.Common.{◌≡◌, ℕ, ◌+◌, ◌<◌, List, [], ◌∷◌, ◌++◌, length, map, get_or, take, Option, None, Some, refl, ap, sym, ◌∙◌}
use Rattle.std.proofs.lemmas.List.{map_more}
use Rattle.lrspec.specs.grammars.Grammar as math
use Rattle.lrspec.specs.grammars.Grammar.{last_token_or}
use Rattle.lrgrammar.specs.declared.idx.Symbol.{Symbol}
use Rattle.lrgrammar.specs.declared.idx.Symbol.TheVariants as code
use Rattle.lrgrammar.specs.declared.idx.RIdx.{RIdx}
use Rattle.lrgrammar.specs.declared.idx.TIdx.{TIdx}
use Rattle.lrgrammar.specs.Symbols.{symbol_of}

last_after : (o : Option ℕ) (xs : List math.Symbol) (x : math.Symbol) → last_token_or o (xs ++ x ∷ []) ≡ last_token_or (last_token_or o xs) (x ∷ [])
last_after o [] x = refl
last_after o (math.Symbol.Rule r ∷ xs) x = last_after o xs x
last_after o (math.Symbol.Token t ∷ xs) x = last_after (Some t) xs x

-- the last token of one symbol more
pub last_more : {T : Type 0} (number : T → ℕ) (xs : List (Symbol T)) (i : ℕ) (x : Symbol T) → i < length xs → x ≡ get_or xs i x → last_token_or None (map (symbol_of number) (take (i + 1) xs)) ≡ last_token_or (last_token_or None (map (symbol_of number) (take i xs))) (symbol_of number x ∷ [])
last_more number xs i x within is =
    ap (last_token_or None) (map_more (symbol_of number) xs i x within ∙ ap (λ y. map (symbol_of number) (take i xs) ++ symbol_of number y ∷ []) (sym is)) ∙ last_after None (map (symbol_of number) (take i xs)) (symbol_of number x)

-- a turn of a loop at a token, and at a rule
pub last_at_token : {T : Type 0} (number : T → ℕ) (xs : List (Symbol T)) (i : ℕ) (x : Symbol T) (t : TIdx T) → i < length xs → x ≡ get_or xs i x → x ≡ code.Token t → Some (number t.0) ≡ last_token_or None (map (symbol_of number) (take (i + 1) xs))
last_at_token number xs i x t within at is =
    sym (last_more number xs i x within at ∙ ap (λ y. last_token_or (last_token_or None (map (symbol_of number) (take i xs))) (symbol_of number y ∷ [])) is)

pub last_at_rule : {T : Type 0} (number : T → ℕ) (xs : List (Symbol T)) (i : ℕ) (x : Symbol T) (r : RIdx T) (o : Option ℕ) → i < length xs → x ≡ get_or xs i x → x ≡ code.Rule r → o ≡ last_token_or None (map (symbol_of number) (take i xs)) → o ≡ last_token_or None (map (symbol_of number) (take (i + 1) xs))
last_at_rule number xs i x r o within at is before =
    before ∙ sym (last_more number xs i x within at ∙ ap (λ y. last_token_or (last_token_or None (map (symbol_of number) (take i xs))) (symbol_of number y ∷ [])) is)
