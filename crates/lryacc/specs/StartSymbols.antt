-- the start symbols of a file
use Rattle.std.specs.Prelude.{◌≡◌, ◌≢◌, ℕ, List, [], ◌∷◌, ◌++◌, Contains}
use Rattle.lryacc.specs.declared.contents.Statement.{Statement}
use Rattle.lryacc.specs.declared.contents.Statement.TheVariants as says
use Rattle.lryacc.specs.declared.dialects.Dialect.{Dialect}
use Rattle.lryacc.specs.declared.lexemes.Lexeme.{Lexeme}
use Rattle.lryacc.specs.NamedSymbols.{called}

-- the lexemes behind `%start`, in the order of the file
abbrev pub start_lexemes : List Statement → List Lexeme
start_lexemes [] = []
start_lexemes (says.Start lexeme ∷ statements) = lexeme ∷ start_lexemes statements
start_lexemes (_ ∷ statements) = start_lexemes statements

-- all of some lexemes are kept, in order, but for those that have the name of an earlier one
pub data AreFirst (text : List ℕ) (dialect : Dialect) : List Lexeme → List Lexeme → Type 0 where
  -- none
  none : AreFirst text dialect [] []
  -- one whose name none before it has
  first : {all kept : List Lexeme} (lexeme : Lexeme) → AreFirst text dialect all kept
      → ((other : Lexeme) → Contains kept other
      → called text dialect other ≢ called text dialect lexeme)
      → AreFirst text dialect (all ++ lexeme ∷ []) (kept ++ lexeme ∷ [])
  -- one whose name an earlier one has
  again : {all kept : List Lexeme} (lexeme other : Lexeme) → AreFirst text dialect all kept
      → Contains kept other → called text dialect other ≡ called text dialect lexeme
      → AreFirst text dialect (all ++ lexeme ∷ []) kept

-- the start symbols that declarations name, each once
abbrev pub AreStarts : List ℕ → Dialect → List Statement → List Lexeme → Type 0
AreStarts text dialect statements starts = AreFirst text dialect (start_lexemes statements) starts
