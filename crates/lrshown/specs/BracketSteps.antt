-- words of trees in brackets, as they are put together node by node
use Rattle.std.specs.Prelude.{ℕ, Bool, true, false, List, [], ◌∷◌, ◌++◌, map, reverse, codes, string_bytes, slice_get, Option, Some, None}
use Rattle.lryacc.specs.declared.numbering.FileGrammar.{FileGrammar}
use Rattle.lrshown.specs.declared.trees.Node.{Node}
use Rattle.lrshown.specs.declared.trees.Node.TheVariants as code
use Rattle.lrshown.specs.declared.brackets.Word as stored
use Rattle.lrshown.specs.BracketTexts.{Word, symbol_text, production_text, with_closing, with_dot, cut_text}

-- a word as it is stored
abbrev pub word_of : stored.Word → Word
word_of w = record { bytes = string_bytes w.text; has_leaf = w.has_leaf }

-- the name of what stands at a node
abbrev pub node_text : FileGrammar → Option Node → List ℕ
node_text file (Some (code.Leaf s)) = symbol_text file s
node_text file (Some (code.Inner p)) = production_text file p
node_text file None = []

-- the same by its number
abbrev pub name_at : FileGrammar → List Node → ℕ → List ℕ
name_at file nodes n = node_text file (slice_get nodes n)

-- what comes before all that stands below it
abbrev pub front_at : FileGrammar → List Node → List ℕ → List Bool → ℕ → List ℕ
front_at file nodes mark cuts n = (name_at file nodes n ++ codes "(") ++ cut_text mark cuts n

-- productions that are entered one after the other
abbrev pub fronts : FileGrammar → List Node → List ℕ → List Bool → List ℕ → List ℕ
fronts file nodes mark cuts [] = []
fronts file nodes mark cuts (m ∷ ms) = front_at file nodes mark cuts m ++ fronts file nodes mark cuts ms

-- words, of which the last one ends with a closing bracket
abbrev pub closed : List Word → List Word
closed [] = []
closed (w ∷ ws) = with_closing (w ∷ ws)

-- words, and one behind them that begins with what is entered
abbrev pub with_word : FileGrammar → List Node → List ℕ → List Bool → List Word → List ℕ → List ℕ → Bool → List Word
with_word file nodes mark cuts ws entered text has_leaf =
    ws ++ record { bytes = fronts file nodes mark cuts (reverse entered) ++ text; has_leaf = has_leaf } ∷ []

-- words with a node, before which these productions are entered
abbrev pub with_node : FileGrammar → List Node → List ℕ → List Bool → List Word → Node → List ℕ → List Word
with_node file nodes mark cuts ws (code.Leaf s) entered = with_word file nodes mark cuts ws entered (symbol_text file s) true
with_node file nodes mark cuts ws (code.Inner p) [] = closed ws
with_node file nodes mark cuts ws (code.Inner p) (m ∷ ms) = with_word file nodes mark cuts ws (m ∷ ms) (codes ")") false

-- words with a dot that is still to come, or was there
abbrev pub with_dot_left : Option ℕ → List Word → List (List ℕ)
with_dot_left (Some n) ws = with_dot n ws
with_dot_left None ws = map (λ w. w.bytes) ws
