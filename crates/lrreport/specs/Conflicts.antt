-- conflicts, whatever their states: what meets at which tokens, and what states do there
use Rattle.std.specs.Prelude.{ℕ, Bool, true, false, ◌&&◌, ◌==◌, nat_eq, nat_le, if◌then◌else◌, List, [], ◌∷◌, Option, None, Some, map, option_map, is_none, filter, slice_get}
use Rattle.std.specs.List.{list_all, list_any}
use Rattle.std.specs.Option.{option_eq}
use Rattle.lrspec.specs.grammars.ItemSets.{Items}
use Rattle.lrspec.specs.merging.Graph.{Graph, closed_of}
use Rattle.lrspec.specs.tables.Table.{Table, Action, Accept, Error, action_of}
use Rattle.lrspec.specs.tables.Table as table
use Rattle.lrgrammar.specs.declared.grammar.PartSymbol.{PartSymbol}
use Rattle.lrgrammar.specs.declared.grammar.PartSymbol.TheVariants.{Rule, Token}
use Rattle.lryacc.specs.declared.numbering.FileGrammar.{FileGrammar}
use Rattle.lryacc.specs.Parsers.{splits}
use Rattle.lrverdicts.specs.declared.conflicts.Entry.{Entry}
use Rattle.lrshown.specs.declared.evidence.Evidence.{Evidence}
use Rattle.lrshown.specs.DrawnTrees.{body}
use Rattle.lrreport.specs.declared.conflicts.Choice.{Choice}
use Rattle.lrreport.specs.declared.conflicts.Choice.TheVariants.{Shift, Reduce, Other, Neither}
use Rattle.lrreport.specs.declared.conflicts.Checked.{Checked}

-- which of the things that meet in an entry an action does
abbrev pub choice_by : Entry → Action → Choice
choice_by e (table.Shift s) = Shift
choice_by e (table.Reduce p) =
    if p == e.production
    then Reduce
    else if option_eq nat_eq (Some p) e.other
    then Other
    else Neither
choice_by e Accept = Neither
choice_by e Error = Neither

-- the greatest index of a state or a token
abbrev pub greatest_index : ℕ
greatest_index = 4294967295

-- that of the cell of an entry; none where its state or its token is above the greatest index
abbrev pub choice_at : Table → Entry → Choice
choice_at b e =
    if nat_le e.state greatest_index && nat_le e.token greatest_index
    then choice_by e (action_of b e.state e.token)
    else Neither

-- whether both are the same
abbrev pub is_choice : Choice → Choice → Bool
is_choice Shift Shift = true
is_choice Reduce Reduce = true
is_choice Other Other = true
is_choice Neither Neither = true
is_choice _ _ = false

-- that of all the entries, if it is one
abbrev pub common_choice : Table → List Entry → Option Choice
common_choice b [] = None
common_choice b (e ∷ es) =
    if list_all (λ f. is_choice (choice_at b e) (choice_at b f)) es
    then Some (choice_at b e)
    else None

-- none where the parser splits, and does both
abbrev pub choice_of : Table → Bool → List Entry → Option Choice
choice_of b split entries = if split then None else common_choice b entries

-- the symbol behind the dot of an item, which is a production and a dot, if there is one
abbrev pub symbol_behind : FileGrammar → ℕ × ℕ → Option PartSymbol
symbol_behind file item = slice_get (body file item.0) item.1

-- whether it is a token that passes a test
abbrev pub is_token : (ℕ → Bool) → Option PartSymbol → Bool
is_token test None = false
is_token test (Some (Rule r)) = false
is_token test (Some (Token t)) = test t

-- the items, as production and dot, behind whose dot such a token stands
abbrev pub items_before : FileGrammar → (ℕ → Bool) → Items → List (ℕ × ℕ)
items_before file test items =
    filter (λ item. is_token test (symbol_behind file item)) (map (λ e. e.0) items)

-- whether one of the entries is at the token
abbrev pub is_met_at : List Entry → ℕ → Bool
is_met_at entries t = list_any (λ e. t == e.token) entries

-- the items by which the state of entries shifts one of their tokens, where a production meets a shift and there is a graph
abbrev pub shifting_items : FileGrammar → Option Graph → List Entry → List (ℕ × ℕ)
shifting_items file None entries = []
shifting_items file (Some h) [] = []
shifting_items file (Some h) (e ∷ es) =
    if is_none e.other
    then items_before file (is_met_at (e ∷ es)) (closed_of h e.state)
    else []

-- a conflict, whatever its state
pub record Conflict : Type 0 where
  -- of each entry the token, the production, and the other one if there is one
  pub met : List (ℕ × ℕ × Option ℕ)
  -- the items by which its state shifts these tokens
  pub shifting : List (ℕ × ℕ)
  -- what the table does
  pub choice : Option Choice
  -- of each entry, if it is decided, how many tokens decide it, if that is known
  pub decided : List (Option (Option ℕ))

-- that of entries at which the same meets in one state
abbrev pub conflict_of : Checked → List Evidence → Conflict
conflict_of c evidence = record {
  met = map (λ e. (e.entry.token, e.entry.production, e.entry.other)) evidence;
  shifting = shifting_items c.told.file.now c.found.now.graph (map (λ e. e.entry) evidence);
  choice = choice_of c.found.now.table (splits c.told.parser.now) (map (λ e. e.entry) evidence);
  decided = map (λ e. option_map (λ d. d.tokens) e.decided) evidence;
}
