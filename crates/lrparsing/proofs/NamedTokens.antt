-- the tokens that words name are of the grammar
use Rattle.std.proofs.Common.{◌≡◌, ℕ, ◌<◌, Bool, true, false, nat_lt, List, [], ◌∷◌, ◌++◌, length, Option, None, Some, refl, ap, subst, if◌then◌else◌}
use Rattle.std.specs.Prelude.{string_bytes}
use Rattle.std.specs.Option.{option_map_or}
use Rattle.std.proofs.lemmas.List.Elements.{All-head, All-rest, All-push}
use Rattle.lrspec.specs.grammars.Grammar.{Grammar, end_token}
use Rattle.lrspec.specs.tables.Recognition.{AreNamed}
use Rattle.lrspec.specs.texts.Lines.{words}
use Rattle.lrparsing.specs.declared.spellings.Spelling.{Spelling}
use Rattle.lrparsing.specs.Lines.{AreSpelled, Front, behind, front_of, first_named, first_of, taken}

module _ (g : Grammar) where
  -- one token more
  pub named_more : (ts : List ℕ) (t : ℕ) → AreNamed g ts → t < end_token g → AreNamed g (ts ++ t ∷ [])
  named_more ts t named below = All-push (λ t. t < end_token g) ts t named below

  module _ (t : ℕ) (other : Option Front) (f : Front) (below : t < end_token g) (rest_below : other ≡ Some f → f.token < end_token g) where
    -- where the words behind a name are fewer, or not
    by_length : (b : Bool) (rest : List (List ℕ))
        → first_of (if b then Some (front_of t rest) else None) other ≡ Some f → f.token < end_token g
    by_length true rest e = subst (λ m. m < end_token g) (ap (λ o. option_map_or (λ m. m.token) o 0) e) below
    by_length false rest e = rest_below e

    -- where a name stands there, or not
    by_name : (ws : List (List ℕ)) (o : Option (List (List ℕ))) → first_of (taken t ws o) other ≡ Some f → f.token < end_token g
    by_name ws None e = rest_below e
    by_name ws (Some rest) e = by_length (nat_lt (length rest) (length ws)) rest e

  -- what words begin with names a token of it
  pub first_below : (ss : List Spelling) (ws : List (List ℕ)) (f : Front) → AreSpelled g ss → first_named ss ws ≡ Some f → f.token < end_token g
  first_below [] ws f spelled e = cc
  first_below (s ∷ ss) ws f spelled e =
      let P : Spelling → Type 0 = λ s. s.token.0 < end_token g in
      by_name s.token.0 (first_named ss ws) f (All-head P s ss spelled)
      (λ e. first_below ss ws f (All-rest P s ss (s ∷ ss) refl spelled) e) ws (behind (words (string_bytes s.name)) ws) e
