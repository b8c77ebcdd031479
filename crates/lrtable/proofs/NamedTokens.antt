-- the tokens that words name
use Rattle.std.proofs.Common.{◌≡◌, ⊎_elim, ℕ, ◌<◌, ◌≤◌, Bool, true, false, List, [], ◌∷◌, length, get_or, Option, None, Some, refl, sym, ◌∙◌, arith}
use Rattle.std.specs.Prelude.{Contains, IfNone, IfSome, slice_get, All}
use Rattle.std.specs.Option.{option_map}
use Rattle.std.specs.List.{cons_option, position, position_or_len}
use Rattle.std.specs.Str.{IsUtf8, bytes_eq}
use Rattle.std.proofs.lemmas.Bool.{cases_lt, lt-ltb, le-ltb}
use Rattle.std.proofs.lemmas.List.Elements.{All-nil, All-cons}
use Rattle.std.proofs.lemmas.List.Quantifiers.{position-Some}
use Rattle.std.proofs.lemmas.List.Sums.{position_or_len_is, passes_at_first}
use Rattle.std.proofs.lemmas.Option.{slice_get_within, get_or_from_slice_get}
use Rattle.std.proofs.lemmas.Slice.Eq.{bytes_eq-Decides}
use Rattle.lrspec.specs.grammars.Grammar.{Grammar, end_token}
use Rattle.lrspec.specs.tables.Recognition.{AreNamed}
use Rattle.lrspec.specs.texts.Parts.{HasDouble}
use Rattle.lrspec.specs.texts.MachineLines.{token_of, tokens_of}

not_true : (b : Bool) → (b ≡ true → ⊥) → b ≡ false
not_true true h = absurd (h refl)
not_true false h = refl

-- ---- tokens of words

-- the token of a word is a named one
token_below : (g : Grammar) (w : List ℕ) (t : ℕ) → token_of g w ≡ Some t → t < end_token g
token_below g w t e = (position-Some (bytes_eq w) g.token_names t [] e).0

named_more : (g : Grammar) (o : Option ℕ) (ts : List ℕ) → ((t : ℕ) → o ≡ Some t → t < end_token g) → AreNamed g ts → AreNamed g (cons_option o ts)
named_more g None ts h named = named
named_more g (Some t) ts h named = All-cons (λ t. t < end_token g) t ts (h t refl) named

-- so are those of words
pub tokens_named : (g : Grammar) (ws : List (List ℕ)) → AreNamed g (tokens_of g ws)
tokens_named g [] = All-nil (λ t. t < end_token g)
tokens_named g (w ∷ ws) = named_more g (token_of g w) (tokens_of g ws) (token_below g w) (tokens_named g ws)

-- ---- look-ups

module _ (names : List (List ℕ)) (w : List ℕ) where
  -- the place of a name, none of which stands twice
  pub name_at : (t : ℕ) → slice_get names t ≡ Some w → (HasDouble names → ⊥) → position (bytes_eq w) names ≡ Some t
  name_at t e apart =
      let within : t < length names = slice_get_within names t w e in
      let here : get_or names t [] ≡ w = get_or_from_slice_get names t w [] e in
      let at : position_or_len (bytes_eq w) names ≡ t =
      position_or_len_is (bytes_eq w) names t [] (omega arith)
      (λ k l. not_true (bytes_eq w (get_or names k [])) (λ b. apart (k, t, l, within, sym ((bytes_eq-Decides w (get_or names k [])).0 b) ∙ sym here)))
      (λ _. (bytes_eq-Decides w (get_or names t [])).1 (sym here)) in
      rw (at, lt-ltb t (length names) within) refl

  -- a word that is no name has no place
  pub no_name_at : (Contains names w → ⊥) → position (bytes_eq w) names ≡ None
  no_name_at missing =
      ⊎_elim
      (λ (l : position_or_len (bytes_eq w) names < length names). absurd (missing (there l)))
      (λ (l : length names ≤ position_or_len (bytes_eq w) names). rw (le-ltb (position_or_len (bytes_eq w) names) (length names) l) refl)
      (cases_lt (position_or_len (bytes_eq w) names) (length names))
    where
      there : position_or_len (bytes_eq w) names < length names → Contains names w
      there l =
          let k = position_or_len (bytes_eq w) names in
          (k, l, sym ((bytes_eq-Decides w (get_or names k w)).0 (passes_at_first (bytes_eq w) names w l)))

  -- nor has one that is no text
  pub no_text_at : All IsUtf8 names → (IsUtf8 w → ⊥) → position (bytes_eq w) names ≡ None
  no_text_at texts none = no_name_at (λ (k, l, e). none (rw e at (texts k w l)))

  -- what a look-up of the word answers
  pub looked_up :
      {X : Type 0} (number : X → ℕ) (o : Option X) → IfSome o (λ t. slice_get names (number t) ≡ Some w) → IfNone o (Contains names w → ⊥)
      → (HasDouble names → ⊥) → option_map number o ≡ position (bytes_eq w) names
  looked_up number None there missing apart = sym (no_name_at missing)
  looked_up number (Some t) there missing apart = sym (name_at (number t) there apart)
