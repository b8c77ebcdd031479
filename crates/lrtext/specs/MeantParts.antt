-- the contents of a document mean these parts, or are refused for this cause
use Rattle.std.specs.Prelude.{◌≡◌, ℕ, List, [], map, Some, IsTrue, slice_get}
use Rattle.std.specs.String.{string_bytes}
use Rattle.lrtext.specs.declared.reader.ReadError.{ReadError}
use Rattle.lrtext.specs.declared.reader.ReadError.TheVariants as read_error
use Rattle.lrspec.specs.grammars.Grammar.{Precedence}
use Rattle.lrspec.specs.texts.Parts.{Parts}
use Rattle.lrspec.specs.texts.Names.{has_no_repeats}
use Rattle.lrspec.specs.texts.Meaning.{Contents, precedence_names, unknown_names, token_in, production_in, start_in, meant_parts, IsFirstRepeat}

-- the parts by the rules, the tokens and the precedences of names
abbrev pub numbered_parts :
    Contents → List (List ℕ) → List (List ℕ) → List (List ℕ × Precedence) → Parts
numbered_parts s rules tokens ps =
    record {
      rules = rules;
      tokens = map (token_in ps) tokens;
      prods = map (production_in rules tokens) s.alternatives;
      start = start_in rules s.starts;
    }

-- no name is unknown or repeated, and the parts are what is meant
pub record AreMeant (s : Contents) (p : Parts) : Type 0 where
  pub known : unknown_names s ≡ []
  pub once : IsTrue (has_no_repeats (precedence_names s))
  pub parts : meant_parts s ≡ p

-- the error is the first unknown name, or else the first name with two precedences, or says that
-- memory was refused
abbrev pub IsCauseIn : Contents → ReadError → Type 0
IsCauseIn s (read_error.UnknownSymbol w) = slice_get (unknown_names s) 0 ≡ Some (string_bytes w)
IsCauseIn s (read_error.DuplicatePrecedence w) =
    (unknown_names s ≡ []) × IsFirstRepeat (precedence_names s) (string_bytes w)
IsCauseIn s read_error.Memory = Unit {0}
IsCauseIn s _ = ⊥
