-- forms, and trees in a row, as the code stores them
use Rattle.std.specs.Prelude.{ℕ, List, String, Vec, map}
use Rattle.std.specs.String.{string_bytes}
use Rattle.std.specs.declared.alloc.Global.{Global}
use Rattle.lrspec.specs.grammars.Grammar.{Grammar}
use Rattle.lrgrammar.specs.Symbols.{symbol_of, number_of}
use Rattle.lrforms.specs.declared.ambiguous.Form.{Form}
use Rattle.lrreasons.specs.declared.brackets.Row as stored
use Rattle.lrreasons.specs.Words.{words_of}
use Rattle.lrreasons.specs.Brackets.{Row}

-- the words of a form
abbrev pub form_words : Grammar → Form → List (List ℕ)
form_words g f = words_of g (map (symbol_of number_of) f.symbols.items)

-- trees, each by its words
abbrev pub trees_of : List (Vec (String Global) Global) → List (List (List ℕ))
trees_of ts = map (λ t. map string_bytes t.items) ts

-- trees in a row
abbrev pub row_of : stored.Row → Row
row_of r = record { trees = trees_of r.trees.items; used = r.used }
