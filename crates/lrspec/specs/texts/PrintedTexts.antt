-- texts as they are printed: of productions, items, item sets, graphs and conflicts
use Rattle.std.specs.Prelude.{ℕ, ◌-◌, ◌==◌, Bool, false, List, [], ◌∷◌, ◌++◌, codes, filter, length, slice_index_or, take}
use Rattle.std.specs.Fmt.{decimal}
use Rattle.std.specs.List.{flat_map, join_by, range_with_len, repeat}
use Rattle.lrspec.specs.grammars.Grammar.{Symbol, Rule, Token, Grammar, body_of, rule_of, rest}
use Rattle.lrspec.specs.grammars.ItemSets.{Items}
use Rattle.lrspec.specs.merging.Graph.{Graph, core_of, closed_of, edges_of}
use Rattle.lrspec.specs.tables.Table.{Lists}

-- ---- productions

abbrev pub rule_name : Grammar → ℕ → List ℕ
rule_name g r = slice_index_or g.rule_names r []

abbrev pub symbol_name : Grammar → Symbol → List ℕ
symbol_name g (Rule r) = rule_name g r
symbol_name g (Token t) = slice_index_or g.token_names t []

-- a space, and the name of the symbol in double quotes
abbrev pub quoted : Grammar → Symbol → List ℕ
quoted g x = codes " \"" ++ symbol_name g x ++ codes "\""

-- the text of the production `p`: its rule, a colon, and each symbol of its body
abbrev pub production_text : Grammar → ℕ → List ℕ
production_text g p = rule_name g (rule_of g p) ++ codes ":" ++ flat_map (quoted g) (body_of g p)

-- ---- items

-- the name of a token, `$` for the end token
abbrev pub token_name : Grammar → ℕ → List ℕ
token_name g t = slice_index_or g.token_names t (codes "$")

-- a token: its name between quotes, `$` for the end token
abbrev pub token_text : Grammar → ℕ → List ℕ
token_text g t = codes "'" ++ token_name g t ++ codes "'"

-- a symbol: the name of a rule as it is, a token between quotes
abbrev pub symbol_text : Grammar → Symbol → List ℕ
symbol_text g (Rule r) = rule_name g r
symbol_text g (Token t) = token_text g t

-- the symbols, a space before each
abbrev pub spaced : Grammar → List Symbol → List ℕ
spaced g xs = flat_map (λ x. codes " " ++ symbol_text g x) xs

-- the tokens whose bits are set, upwards
abbrev pub set_bits : List Bool → List ℕ
set_bits v = filter (λ t. slice_index_or v t false) (range_with_len 0 (length v))

-- the lookaheads: the texts of the tokens, parted by commas
abbrev pub looks_text : Grammar → List Bool → List ℕ
looks_text g v = join_by (token_text g) (codes ", ") (set_bits v)

-- an item: its rule, its body with a dot, and its lookaheads
abbrev pub item_text : Grammar → (ℕ × ℕ) × List Bool → List ℕ
item_text g e =
    codes "[" ++ rule_name g (rule_of g e.0.0) ++ codes " ->"
    ++ spaced g (take e.0.1 (body_of g e.0.0)) ++ codes " ." ++ spaced g (rest g e.0.0 e.0.1)
    ++ codes ", {" ++ looks_text g e.1 ++ codes "}]"

-- an item set: its items, an item a line
abbrev pub items_text : Grammar → Items → List ℕ
items_text g a = join_by (item_text g) (codes "\n") a

-- ---- graphs

abbrev pub spaces : ℕ → List ℕ
spaces n = repeat n (codes " ")

-- the number of the state `s`, a colon and a space, and spaces between where the number has fewer
-- than `width` digits
abbrev pub label : ℕ → ℕ → List ℕ
label width s = decimal s ++ codes ":" ++ spaces (width - length (decimal s)) ++ codes " "

-- the end of a line, and as many spaces as a label takes room
abbrev pub line_break : ℕ → List ℕ
line_break width = codes "\n  " ++ spaces width

-- an edge: its symbol, and the state to which it leads
abbrev pub edge_text : Grammar → Symbol × ℕ → List ℕ
edge_text g e = symbol_text g e.0 ++ codes " -> " ++ decimal e.1

-- the edges that lead to one of the first `n` states, by that state upwards
abbrev pub edges_by_target : ℕ → List (Symbol × ℕ) → List (Symbol × ℕ)
edges_by_target n es = flat_map (λ u. filter (λ e. e.1 == u) es) (range_with_len 0 n)

-- a state: its number, the items that are shown of it, and these edges, an item or an edge a line
abbrev pub state_text : Grammar → ℕ → ℕ → Items → List (Symbol × ℕ) → List ℕ
state_text g width s a es =
    label width s ++ join_by (item_text g) (line_break width) a
    ++ flat_map (λ e. line_break width ++ edge_text g e) es

-- a graph, where `shown` gives the items that are shown of a state: its states in lines of their
-- own, with numbers in as much room as that of the states takes
abbrev pub graph_text : Grammar → (ℕ → Items) → Graph → List ℕ
graph_text g shown h =
    let states = range_with_len 0 (length h) in
    let width = length (decimal (length h)) in
    let edges : ℕ → List (Symbol × ℕ) = λ s. edges_by_target (length h) (edges_of h s) in
    join_by (λ s. state_text g width s (shown s) (edges s)) (codes "\n") states

-- a graph with the cores of its states
abbrev pub core_text : Grammar → Graph → List ℕ
core_text g h = graph_text g (core_of h) h

-- a graph with its closed states
abbrev pub closed_text : Grammar → Graph → List ℕ
closed_text g h = graph_text g (closed_of h) h

-- ---- conflicts

-- a shift/reduce conflict: its state, the token that is shifted, and the production
abbrev pub shift_reduce_line : Grammar → ℕ × ℕ × ℕ → List ℕ
shift_reduce_line g e =
    codes "   State " ++ decimal e.2 ++ codes ": Shift(\"" ++ token_name g e.0
    ++ codes "\") / Reduce(" ++ production_text g e.1 ++ codes ")\n"

-- a reduce/reduce conflict: its state, the token, the production that is reduced, and the other
abbrev pub reduce_reduce_line : Grammar → ℕ × ℕ × ℕ × ℕ → List ℕ
reduce_reduce_line g e =
    codes "   State " ++ decimal e.3 ++ codes " (lookahead " ++ token_name g e.0
    ++ codes "): Reduce(" ++ production_text g e.1 ++ codes ") / Reduce("
    ++ production_text g e.2 ++ codes ")\n"

-- a line for each entry under a headline; nothing for none
abbrev pub headed : {X : Type 0} → List ℕ → (X → List ℕ) → List X → List ℕ
headed headline line [] = []
headed headline line (e ∷ es) = headline ++ flat_map line (e ∷ es)

abbrev pub shift_reduce_text : Grammar → Lists → List ℕ
shift_reduce_text g c =
    headed (codes "Shift/Reduce conflicts:\n") (shift_reduce_line g) c.shift_reduce

abbrev pub reduce_reduce_text : Grammar → Lists → List ℕ
reduce_reduce_text g c =
    headed (codes "Reduce/Reduce conflicts:\n") (reduce_reduce_line g) c.reduce_reduce

-- all conflicts, the shift/reduce ones first
abbrev pub conflicts_text : Grammar → Lists → List ℕ
conflicts_text g c = shift_reduce_text g c ++ reduce_reduce_text g c
