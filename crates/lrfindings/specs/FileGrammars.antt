-- the grammar of a file, with its precedences or without them
use Rattle.std.specs.Prelude.{◌≡◌, ℕ, Bool, true, false, None, map}
use Rattle.lrspec.specs.grammars.Grammar.{Grammar}
use Rattle.lrspec.specs.texts.Parts.{Parts, PartToken, grammar_of_parts, NoCause}
use Rattle.lrtext.specs.StoredParts.{parts_of}
use Rattle.lryacc.specs.declared.numbering.FileGrammar.{FileGrammar}

-- the token without its precedence
abbrev pub without_precedence : PartToken → PartToken
without_precedence t = record { name = t.name; precedence = None }

-- the same parts, but no token has a precedence
abbrev pub without_precedences : Parts → Parts
without_precedences p =
    record {
      rules = p.rules;
      tokens = map without_precedence p.tokens;
      prods = p.prods;
      start = p.start;
    }

-- the parts of a file's grammar, with its precedences or without them
abbrev pub parts_in_force : FileGrammar → Bool → Parts
parts_in_force file true = parts_of file.parts
parts_in_force file false = without_precedences (parts_of file.parts)

-- the grammar is that of the file, whose parts are refused for no cause, with indices up to the greatest
pub record IsGrammarOfFile (max : ℕ) (file : FileGrammar) (has_precedences : Bool) (g : Grammar) : Type 0 where
  pub free : NoCause max (parts_in_force file has_precedences)
  pub grammar : g ≡ grammar_of_parts (parts_in_force file has_precedences)
