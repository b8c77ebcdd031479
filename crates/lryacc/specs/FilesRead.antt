-- what the grammar of a file comes from
use Rattle.std.specs.Prelude.{◌≡◌, ℕ, ◌<◌, true, List, [], Some, Contains, codes, map, length, slice_get, string_bytes}
use Rattle.lryacc.specs.declared.contents.Alternative.{Alternative}
use Rattle.lryacc.specs.declared.contents.Statement.{Statement}
use Rattle.lryacc.specs.declared.contents.Statement.TheVariants as says
use Rattle.lryacc.specs.declared.dialects.Dialect.{Dialect}
use Rattle.lryacc.specs.declared.dialects.Dialect.TheVariants.{Bison}
use Rattle.lryacc.specs.declared.faults.Fault.{Fault}
use Rattle.lryacc.specs.declared.file.FileRead.{FileRead}
use Rattle.lryacc.specs.declared.file.FileRead.TheVariants.{Grammar, Faults}
use Rattle.lryacc.specs.declared.lexemes.Lexeme.{Lexeme}
use Rattle.lryacc.specs.declared.numbering.FileGrammar.{FileGrammar}
use Rattle.lryacc.specs.declared.useful.Useless.{Useless}
use Rattle.lryacc.specs.Aliases.{AreHeeded}
use Rattle.lryacc.specs.AllBodies.{AreAllBodies}
use Rattle.lryacc.specs.AllLexemes.{AreAllLexemesOf}
use Rattle.lryacc.specs.BodyProductions.{AreOfFile}
use Rattle.lryacc.specs.Declarations.{AreAllDeclared}
use Rattle.lryacc.specs.EndTokens.{HasEnd}
use Rattle.lryacc.specs.ExpectedConflicts.{AreExpected, is_generalized}
use Rattle.lryacc.specs.Headers.{IsReadAs}
use Rattle.lryacc.specs.KeptProductions.{IsWithout}
use Rattle.lryacc.specs.Levels.{IsInLine, has_default_after, levels_of}
use Rattle.lryacc.specs.NamedSymbols.{AreDeclaredRules, AreOneEach, HasEndToken, NameOne, Names, called}
use Rattle.lryacc.specs.Parsers.{IsParserOf}
use Rattle.lryacc.specs.ProductionPlaces.{file_places, start_rules_of}
use Rattle.lryacc.specs.StartSymbols.{AreStarts}

-- the names of a file of this text and dialect, with these declarations and bodies, and of the rules, of which the first is
-- `$accept`, and the tokens of a grammar of it: lexemes have one number if and only if they are the same name, or two that a heeded
-- declaration makes names of one symbol; each rule and each token is the symbol of one number; the end token is what declarations
-- say, and so are the precedence lines of symbols, and whether bodies without `%prec` have a precedence
pub record AreNamesOf (text : List ℕ) (dialect : Dialect) (statements : List Statement)
    (bodies : List Alternative) (file : FileGrammar) (names : Names) : Type 0 where
  pub text_is : names.text ≡ text
  pub dialect_is : names.dialect ≡ dialect
  pub statements_are : names.statements ≡ statements
  pub bodies_are : names.bodies ≡ bodies
  pub accept : slice_get names.rules 0 ≡ Some (codes "$accept")
  pub rules : names.rules ≡ map (λ name. string_bytes name) file.parts.rules.items
  pub tokens : names.tokens ≡ map (λ token. string_bytes token.name) file.parts.tokens.items
  pub starts : names.starts ≡ map (λ place. place.start) file.rule_places.items
  pub precedences : names.precedences ≡ map (λ token. token.precedence) file.parts.tokens.items
  pub end : HasEnd names
  pub end_token : HasEndToken names
  pub lines : names.lines ≡ levels_of statements
  pub has_default : names.has_default ≡ has_default_after true statements
  pub in_line : (lexeme : Lexeme) (number line : ℕ) → names.number lexeme ≡ Some number
      → names.line number ≡ Some line → IsInLine statements names.number number line
  pub has_line : (lexeme : Lexeme) (number : ℕ) → Contains statements (says.InLevel lexeme)
      → names.number lexeme ≡ Some number → (line : ℕ) × (names.line number ≡ Some line)
  pub one : (lexeme other : Lexeme) (number : ℕ) → names.number lexeme ≡ Some number
      → names.number other ≡ Some number → NameOne text dialect statements lexeme other
  pub by_name : (lexeme other : Lexeme)
      → called text dialect lexeme ≡ called text dialect other
      → names.number lexeme ≡ names.number other
  pub aliases : AreHeeded names
  pub declared : AreDeclaredRules names
  pub one_each : AreOneEach names.symbol

-- a grammar has the bodies of a file, of which there is at least one: it is one with a production for each start rule and each
-- body, which have the rules and the symbols that the lexemes name, without those that are useless; where a file for Bison has no
-- warning, none is
pub record IsGrammarOf (text : List ℕ) (dialect : Dialect) (statements : List Statement)
    (starts : List Lexeme) (bodies : List Alternative) (file : FileGrammar)
    (warnings : List Fault) : Type 0 where
  pub some : 0 < length bodies
  pub whole : FileGrammar
  pub places : whole.production_places.items ≡ file_places starts bodies
  pub names : Names
  pub named : AreNamesOf text dialect statements bodies whole names
  pub productions :
      AreOfFile names (start_rules_of starts bodies) bodies whole.parts.prods.items
  pub useless : Useless
  pub without : IsWithout useless whole file
  pub warned : dialect ≡ Bison → warnings ≡ [] → useless.rules.items ≡ []
  pub warned_productions : warnings ≡ [] → useless.productions.items ≡ []

-- faults come to no grammar
abbrev pub HasNoGrammar : FileRead → Type 0
HasNoGrammar (Grammar file expected parser warnings) = ⊥
HasNoGrammar (Faults faults) = Unit {0}

-- if a file comes to a grammar, it is that of its bodies, with the start symbols that declarations name, the numbers of conflicts
-- that they expect, and the parser that they ask for
abbrev pub HasBodies : List ℕ → Dialect → List Statement → List Alternative → FileRead → Type 0
HasBodies text dialect statements bodies (Grammar file expected parser warnings) =
    (starts : List Lexeme) × IsGrammarOf text dialect statements starts bodies file warnings.items
    × AreStarts text dialect statements starts × AreExpected text dialect statements expected
    × IsParserOf text dialect (is_generalized statements) parser
HasBodies text dialect statements bodies (Faults faults) = Unit {0}

-- the statements and the bodies of a text: what all its lexemes declare, and all bodies that stand among these
pub record IsReadFromAll (text : List ℕ) (dialect : Dialect) (statements : List Statement)
    (bodies : List Alternative) : Type 0 where
  pub lexemes : List Lexeme
  pub of_text : AreAllLexemesOf text dialect lexemes
  pub declared : AreAllDeclared text lexemes dialect statements
  pub all : AreAllBodies text lexemes dialect bodies

-- if a text comes to a grammar, these are its statements and its bodies
abbrev pub AreOfText : List ℕ → Dialect → List Statement → List Alternative → FileRead → Type 0
AreOfText text dialect statements bodies (Grammar file expected parser warnings) =
    IsReadFromAll text dialect statements bodies
AreOfText text dialect statements bodies (Faults faults) = Unit {0}

-- what a text comes to that is taken for one of a dialect: it is read as one, or as one of grmtools where it says so
pub record ComesTo (text : List ℕ) (taken : Dialect) (read : FileRead) : Type 0 where
  pub dialect : Dialect
  pub is : IsReadAs text taken dialect
  pub statements : List Statement
  pub bodies : List Alternative
  pub are_read : AreOfText text dialect statements bodies read
  pub has : HasBodies text dialect statements bodies read
