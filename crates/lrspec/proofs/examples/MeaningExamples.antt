-- example texts: the parts that they mean, and why some are refused
use Rattle.std.proofs.Common.{◌≡◌, ℕ, ◌≤◌, List, [], ◌∷◌, length, None, Some, refl, codes, lit≤}
use Rattle.lrspec.specs.grammars.Grammar.{Rule, Token, Kind, Left, Right, Nonassoc}
use Rattle.lrspec.specs.texts.Parts.{PartToken, Parts, grammar_of_parts}
use Rattle.lrspec.specs.texts.Lexemes.{Misfit}
use Rattle.lrspec.specs.texts.Documents.{NameText, BodyText, Document, Plain, InQuotes, StartLine, TokenLine, KindLine, document_lexemes, start_names, lexemes_of, Reads}
use Rattle.lrspec.specs.texts.Meaning as meaning
use Rattle.lrspec.specs.texts.Meaning.{UnknownSymbol, DuplicatePrecedence, IsRefused, Means}
use Rattle.lrspec.specs.examples.ExampleGrammars.{production, hidden_left_recursion}
use Rattle.lrspec.proofs.texts.LexemesOfText.{text_lexemes, text_has_lexemes}

-- a text is a document with the same lexemes
reads : (bs : List ℕ) (d : Document) → document_lexemes d ≡ lexemes_of (text_lexemes bs) → length (start_names d.declarations) ≤ 1 → Reads bs d
reads bs d h one = record { placed = text_lexemes bs; has = text_has_lexemes bs; is = record { lexemes = h; one_start = one } }

-- a body without `%prec`
abbrev names : List NameText → BodyText
names ns = record { names = ns; precedence = None }

-- a token without precedence
abbrev bare : List ℕ → PartToken
bare w = record { name = w; precedence = None }

-- a token with precedence
abbrev at : List ℕ → ℕ → Kind → PartToken
at w n k = record { name = w; precedence = Some (record { level = n; kind = k }) }

-- the tokens of a line come first, and what stands behind the second `%%` isn't read
token_line : Means (codes "%token a %% S: b \"b\" | 'a'; b: ; %% '") (record {
  rules = codes "S" ∷ codes "b" ∷ [];
  tokens = bare (codes "a") ∷ bare (codes "b") ∷ [];
  prods = production 0 (Rule 1 ∷ Token 1 ∷ []) ∷ production 0 (Token 0 ∷ []) ∷ production 1 [] ∷ [];
  start = 0;
})
token_line =
    let d : Document = record {
      declarations = TokenLine (Plain (codes "a")) [] ∷ [];
      rules = record { name = codes "S"; first = names (Plain (codes "b") ∷ InQuotes (codes "b") ∷ []); others = names (InQuotes (codes "a") ∷ []) ∷ [] } ∷ record { name = codes "b"; first = names []; others = [] } ∷ [];
      behind = Some (Misfit ∷ []);
    } in
    record { document = d; reads = reads _ d refl (lit≤ tt); known = refl; once = refl; parts = refl }

-- a level is the number of its line; a rule in two places keeps its number
levels : Means (codes "%left '+' '-' %right '*' %start E %% F: 'x'; E: E '+' F; F: F '*' F;") (record {
  rules = codes "F" ∷ codes "E" ∷ [];
  tokens = bare (codes "x") ∷ at (codes "+") 0 Left ∷ at (codes "*") 1 Right ∷ at (codes "-") 0 Left ∷ [];
  prods = production 0 (Token 0 ∷ []) ∷ production 1 (Rule 1 ∷ Token 1 ∷ Rule 0 ∷ []) ∷ production 0 (Rule 0 ∷ Token 2 ∷ Rule 0 ∷ []) ∷ [];
  start = 1;
})
levels =
    let d : Document = record {
      declarations = KindLine Left (InQuotes (codes "+")) (InQuotes (codes "-") ∷ []) ∷ KindLine Right (InQuotes (codes "*")) [] ∷ StartLine (codes "E") ∷ [];
      rules = record { name = codes "F"; first = names (InQuotes (codes "x") ∷ []); others = [] } ∷ record { name = codes "E"; first = names (Plain (codes "E") ∷ InQuotes (codes "+") ∷ Plain (codes "F") ∷ []); others = [] }
          ∷ record { name = codes "F"; first = names (Plain (codes "F") ∷ InQuotes (codes "*") ∷ Plain (codes "F") ∷ []); others = [] } ∷ [];
      behind = None;
    } in
    record { document = d; reads = reads _ d refl (lit≤ tt); known = refl; once = refl; parts = refl }

-- a plain name in a body is a rule before it is a token
rule_before_token : Means (codes "%nonassoc x %% S: x; x: 'a';") (record {
  rules = codes "S" ∷ codes "x" ∷ [];
  tokens = bare (codes "a") ∷ at (codes "x") 0 Nonassoc ∷ [];
  prods = production 0 (Rule 1 ∷ []) ∷ production 1 (Token 0 ∷ []) ∷ [];
  start = 0;
})
rule_before_token =
    let d : Document = record {
      declarations = KindLine Nonassoc (Plain (codes "x")) [] ∷ [];
      rules = record { name = codes "S"; first = names (Plain (codes "x") ∷ []); others = [] } ∷ record { name = codes "x"; first = names (InQuotes (codes "a") ∷ []); others = [] } ∷ [];
      behind = None;
    } in
    record { document = d; reads = reads _ d refl (lit≤ tt); known = refl; once = refl; parts = refl }

-- the name of `%prec` is a token, which comes last and gives the production its precedence
named_token : Means (codes "%left '+' %% S: 'a' %prec 'b' | '+' %prec 'a';") (record {
  rules = codes "S" ∷ [];
  tokens = bare (codes "a") ∷ at (codes "+") 0 Left ∷ bare (codes "b") ∷ [];
  prods =
      record { rule = 0; body = Token 0 ∷ []; precedence_token = Some 2 }
      ∷ record { rule = 0; body = Token 1 ∷ []; precedence_token = Some 0 }
      ∷ [];
  start = 0;
})
named_token =
    let d : Document = record {
      declarations = KindLine Left (InQuotes (codes "+")) [] ∷ [];
      rules = record {
        name = codes "S";
        first = record { names = InQuotes (codes "a") ∷ []; precedence = Some (InQuotes (codes "b")) };
        others = record { names = InQuotes (codes "+") ∷ []; precedence = Some (InQuotes (codes "a")) } ∷ [];
      } ∷ [];
      behind = None;
    } in
    record { document = d; reads = reads _ d refl (lit≤ tt); known = refl; once = refl; parts = refl }

-- without rules the start is out of range
no_rules : Means (codes "%%") (record { rules = []; tokens = []; prods = []; start = 0 })
no_rules =
    let d : Document = record { declarations = []; rules = []; behind = None } in
    record { document = d; reads = reads _ d refl (lit≤ tt); known = refl; once = refl; parts = refl }

-- a quoted name makes no plain one known
unknown_body_name : IsRefused (codes "%% S: 'x' x;") (UnknownSymbol (codes "x"))
unknown_body_name =
    let d : Document = record { declarations = []; rules = record { name = codes "S"; first = names (InQuotes (codes "x") ∷ Plain (codes "x") ∷ []); others = [] } ∷ []; behind = None } in
    meaning.IsRefused.unknown (reads _ d refl (lit≤ tt)) refl

-- nor does a name of `%prec`
unknown_named : IsRefused (codes "%% S: 'a' x %prec x;") (UnknownSymbol (codes "x"))
unknown_named =
    let d : Document = record {
      declarations = [];
      rules = record {
        name = codes "S";
        first = record { names = InQuotes (codes "a") ∷ Plain (codes "x") ∷ []; precedence = Some (Plain (codes "x")) };
        others = [];
      } ∷ [];
      behind = None;
    } in
    meaning.IsRefused.unknown (reads _ d refl (lit≤ tt)) refl

-- the name of `%start` comes before those in bodies
unknown_start : IsRefused (codes "%start T %% S: U;") (UnknownSymbol (codes "T"))
unknown_start =
    let d : Document = record { declarations = StartLine (codes "T") ∷ []; rules = record { name = codes "S"; first = names (Plain (codes "U") ∷ []); others = [] } ∷ []; behind = None } in
    meaning.IsRefused.unknown (reads _ d refl (lit≤ tt)) refl

-- the first name that comes a second time, not the first name that comes again
second_precedence : IsRefused (codes "%left a b %left b a %%") (DuplicatePrecedence (codes "b"))
second_precedence =
    let d : Document = record { declarations = KindLine Left (Plain (codes "a")) (Plain (codes "b") ∷ []) ∷ KindLine Left (Plain (codes "b")) (Plain (codes "a") ∷ []) ∷ []; rules = []; behind = None } in
    meaning.IsRefused.repeated (reads _ d refl (lit≤ tt)) refl (record { before = codes "a" ∷ codes "b" ∷ []; after = codes "a" ∷ []; splits = refl; second = refl; first = refl })

-- hidden left recursion as a text
abbrev hidden_parts : Parts
hidden_parts = record {
  rules = codes "S" ∷ codes "A" ∷ codes "B" ∷ [];
  tokens = bare (codes "x") ∷ bare (codes "y") ∷ [];
  prods =
      production 0 (Rule 1 ∷ Rule 0 ∷ Token 0 ∷ [])
      ∷ production 0 (Rule 2 ∷ Token 1 ∷ [])
      ∷ production 1 []
      ∷ production 2 []
      ∷ [];
  start = 0;
}

hidden_means : Means (codes "%% S: A S 'x' | B 'y'; A: ; B: ;") hidden_parts
hidden_means =
    let d : Document = record {
      declarations = [];
      rules =
          record { name = codes "S"; first = names (Plain (codes "A") ∷ Plain (codes "S") ∷ InQuotes (codes "x") ∷ []); others = names (Plain (codes "B") ∷ InQuotes (codes "y") ∷ []) ∷ [] }
          ∷ record { name = codes "A"; first = names []; others = [] }
          ∷ record { name = codes "B"; first = names []; others = [] }
          ∷ [];
      behind = None;
    } in
    record { document = d; reads = reads _ d refl (lit≤ tt); known = refl; once = refl; parts = refl }

-- its grammar is that of the examples
hidden_is_grammar : grammar_of_parts hidden_parts ≡ hidden_left_recursion
hidden_is_grammar = refl
