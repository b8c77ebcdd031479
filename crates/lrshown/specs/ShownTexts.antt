-- what is shown of a text: neither the token that chooses its start rule, which comes first where a file has several, nor the
-- token that ends it
use Rattle.std.specs.Prelude.{ℕ, ◌==◌, Bool, false, cond, List, [], ◌∷◌, slice_get, drop}
use Rattle.std.specs.Prelude.{Option, Some, None, option_map}
use Rattle.std.specs.Option.{option_or}
use Rattle.lrgrammar.specs.declared.grammar.PartProd.{PartProd}
use Rattle.lrgrammar.specs.declared.grammar.PartSymbol.{PartSymbol}
use Rattle.lrgrammar.specs.declared.grammar.PartSymbol.TheVariants.{Rule, Token}
use Rattle.lryacc.specs.declared.numbering.FileGrammar.{FileGrammar}

-- whether both are one symbol
abbrev pub is_same : PartSymbol → PartSymbol → Bool
is_same (Rule i) (Rule j) = i == j
is_same (Token i) (Token j) = i == j
is_same (Rule i) (Token j) = false
is_same (Token i) (Rule j) = false

abbrev pub is_there : Option PartSymbol → PartSymbol → Bool
is_there None s = false
is_there (Some t) s = is_same s t

-- the start rule that a symbol chooses by a body of `$accept`: behind the symbol stand the rule and the end
abbrev pub chosen_in_body : List PartSymbol → Option PartSymbol → Option PartSymbol
chosen_in_body (first ∷ rule ∷ last ∷ []) symbol = cond (is_there symbol first) (Some rule) None
chosen_in_body body symbol = None

-- the same by productions, of which those of `$accept`, which is rule 0, are the first ones
abbrev pub chosen_in : List PartProd → Option PartSymbol → Option PartSymbol
chosen_in [] symbol = None
chosen_in (p ∷ ps) symbol =
    let chosen = option_or (chosen_in_body p.symbols.items symbol) (chosen_in ps symbol) in
    cond (p.rule == 0) chosen None

-- the start rule that a symbol chooses in a file, if it chooses one
abbrev pub chosen_by : FileGrammar → Option PartSymbol → Option PartSymbol
chosen_by file symbol = chosen_in file.parts.prods.items symbol

-- the start rule that the first token of a text chooses, if it chooses one
abbrev pub start_of_sentence : FileGrammar → List ℕ → Option PartSymbol
start_of_sentence file tokens = chosen_by file (option_map Token (slice_get tokens 0))

-- how many symbols choose a start rule
abbrev pub choosing : Option PartSymbol → ℕ
choosing None = 0
choosing (Some rule) = 1

-- a text without the token that chooses its start rule, if its first one does
abbrev pub behind_choice : FileGrammar → List ℕ → List ℕ
behind_choice file tokens = drop (choosing (start_of_sentence file tokens)) tokens

-- a text without the token that ends it, if its last one does
abbrev pub without_end : List ℕ → List ℕ
without_end [] = []
without_end (t ∷ []) = cond (t == 0) [] (t ∷ [])
without_end (t ∷ u ∷ us) = t ∷ without_end (u ∷ us)

-- what is shown of a text
abbrev pub shown_text : FileGrammar → List ℕ → List ℕ
shown_text file tokens = without_end (behind_choice file tokens)

-- what is shown of a list of symbols
abbrev pub shown_list : FileGrammar → List PartSymbol → List PartSymbol
shown_list file symbols = drop (choosing (chosen_by file (slice_get symbols 0))) symbols
