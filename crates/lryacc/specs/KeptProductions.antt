-- what stays of a grammar out of which rules and productions are taken
use Rattle.std.specs.Prelude.{◌≡◌, ℕ, List, [], ◌∷◌, map, length, Bool, Option, Some, None, is_some, unwrap_or, slice_get, vec_len}
use Rattle.std.specs.List.{filter, filter_map, range_with_len}
use Rattle.std.specs.Option.{option_flatten}
use Rattle.lrspec.specs.grammars.Grammar.{Production, Symbol}
use Rattle.lrspec.specs.grammars.Grammar.Symbol.{Rule, Token}
use Rattle.lryacc.specs.declared.numbering.FileGrammar.{FileGrammar}
use Rattle.lryacc.specs.declared.useful.Useless.{Useless}
use Rattle.lryacc.specs.PlacedProductions.{PlacedProduction, placed_in}
use Rattle.lryacc.specs.UsefulRules.{AreProductive, AreReached, HasProductive, HasReached, is_useful, productions_in}

-- the rules that stay have the new numbers 0, 1, 2 and so on, in their order
abbrev pub AreInOrder : List (Option ℕ) → Type 0
AreInOrder numbers =
    filter_map (λ number. number) numbers
    ≡ range_with_len 0 (length (filter_map (λ number. number) numbers))

-- the new number of a rule
abbrev pub new_number : List (Option ℕ) → ℕ → ℕ
new_number numbers rule = unwrap_or (option_flatten (slice_get numbers rule)) 0

-- a symbol, if it is a rule by its new number
abbrev pub new_symbol : List (Option ℕ) → Symbol → Symbol
new_symbol numbers (Rule rule) = Rule (new_number numbers rule)
new_symbol numbers (Token token) = Token token

-- a production with its rules by their new numbers
abbrev pub new_production : List (Option ℕ) → Production → Production
new_production numbers production =
    record {
      rule = new_number numbers production.rule;
      body = map (new_symbol numbers) production.body;
      precedence_token = production.precedence_token;
    }

-- a production at its place, with its rules by their new numbers
abbrev pub new_placed : List (Option ℕ) → PlacedProduction → PlacedProduction
new_placed numbers at = record at { production = new_production numbers at.production }

-- of a list, the elements at whose places there is a number
abbrev pub with_numbers : {A : Type 0} → List (Option ℕ) → List A → List A
with_numbers [] xs = []
with_numbers (number ∷ numbers) [] = []
with_numbers (Some number ∷ numbers) (x ∷ xs) = x ∷ with_numbers numbers xs
with_numbers (None ∷ numbers) (x ∷ xs) = with_numbers numbers xs

-- the second grammar is the first one, out of which what is useless was taken. By the least set with each productive rule and
-- the least one with each rule that is reached, a rule stays, and has a new number, where it is reached, with its name and its
-- place, and a production where it is useful, with its symbols and its places; all in their order. The tokens are the same. Where
-- nothing is told as useless, all stay
pub record IsWithout (useless : Useless) (whole kept : FileGrammar) : Type 0 where
  pub numbers : List (Option ℕ)
  pub in_order : AreInOrder numbers
  pub many : length numbers ≡ vec_len whole.parts.rules
  pub productive : List Bool
  pub has_productive : HasProductive productive (productions_in whole.parts)
  pub least_productive :
      AreProductive (vec_len whole.parts.rules) (productions_in whole.parts) productive
  pub reached : List Bool
  pub has_reached : HasReached productive reached (productions_in whole.parts)
  pub least_reached :
      AreReached productive (vec_len whole.parts.rules) (productions_in whole.parts) reached
  pub numbered : map is_some numbers ≡ reached
  pub names : kept.parts.rules.items ≡ with_numbers numbers whole.parts.rules.items
  pub places : kept.rule_places.items ≡ with_numbers numbers whole.rule_places.items
  pub tokens : kept.parts.tokens.items ≡ whole.parts.tokens.items
  pub start : kept.parts.start ≡ 0
  pub stay : placed_in kept ≡ map (new_placed numbers)
      (filter (λ at. is_useful productive reached at.production) (placed_in whole))
  pub all : useless.rules.items ≡ [] → useless.productions.items ≡ []
      → placed_in kept ≡ map (new_placed numbers) (placed_in whole)
