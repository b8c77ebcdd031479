-- the parser of a file's grammar
use Rattle.std.specs.Prelude.{◌≡◌, ◌⊎◌, ℕ, ◌-◌, ◌^◌, nat_lt, Bool, List, [], ◌∷◌, map, Option, Some, None, if◌then◌else◌}
use Rattle.lrspec.specs.grammars.Grammar.{Grammar, end_token}
use Rattle.lrgrammar.specs.declared.grammar.PartSymbol.{PartSymbol}
use Rattle.lrgrammar.specs.declared.grammar.PartSymbol.TheVariants.{Token}
use Rattle.lryacc.specs.declared.numbering.FileGrammar.{FileGrammar}
use Rattle.lrfindings.specs.FileGrammars.{IsGrammarOfFile}
use Rattle.lrfindings.specs.Findings.{DecidesNothing}
use Rattle.lrshown.specs.DrawnTrees.{body}
use Rattle.lrparsing.specs.declared.parsers.Parser.{Parser}
use Rattle.lrparsing.specs.Machines.{numbers}
use Rattle.lrparsing.specs.Lines.{HasMore, named_tokens, spelled}

-- the token that chooses the start rule in a body of `$accept`: the first of three symbols
abbrev pub choice : List PartSymbol → Option ℕ
choice (Token t ∷ s ∷ u ∷ []) = Some t
choice _ = None

-- a token of the grammar, or none where it has none of that number
abbrev pub known_token : Grammar → Option ℕ → List ℕ
known_token g None = []
known_token g (Some t) = if nat_lt t (end_token g) then t ∷ [] else []

-- the parser of a file: its grammar is that of the file, with the precedences that are asked for unless they decide nothing; before
-- a line stands what chooses the first start rule, and behind it the token that ends all; and tokens have their names
pub record IsParserOf (file : FileGrammar) (has_precedences : Bool) (steps : ℕ) (p : Parser) : Type 0 where
  pub in_force : Bool
  pub grammar : IsGrammarOfFile (2 ^ 32 - 1) file in_force p.machine.grammar
  pub asked : (in_force ≡ has_precedences) ⊎ DecidesNothing (2 ^ 32 - 1) file
  pub file_is : p.file ≡ file
  pub steps_are : p.machine.steps ≡ steps
  pub front : numbers p.front.items ≡ known_token p.machine.grammar (choice (body file 0))
  pub behind : numbers p.behind.items ≡ known_token p.machine.grammar (Some 0)
  pub names : HasMore (end_token p.machine.grammar) (named_tokens file (end_token p.machine.grammar)) (map spelled p.spellings.items)
