-- the cells of a graph, its lists of conflicts, and tables
use Rattle.std.specs.Prelude.{◌≡◌, ◌≢◌, ℕ, ◌<◌, Bool, false, if◌then◌else◌, not, ◌==◌, ◌&&◌, nat_lt, List, [], ◌∷◌, filter, length, Option, None, Some, slice_index_or}
use Rattle.std.specs.List.{All, flat_map, filter_map, list_any, range_with_len}
use Rattle.lrspec.specs.grammars.Grammar.{Rule, Token, Kind, Left, Right, Nonassoc, Precedence, Grammar, end_token, token_count, body_of, token_precedence, production_precedence}
use Rattle.lrspec.specs.grammars.ItemSets.{Items, item_at, LooksIn}
use Rattle.lrspec.specs.grammars.Candidates as candidate
use Rattle.lrspec.specs.grammars.Candidates.{Candidate}
use Rattle.lrspec.specs.merging.Graph.{Graph, closed_of, edge, IsGraphOf}

-- what a cell of the table says
pub data Action : Type 0 where
  Shift : ℕ → Action
  Reduce : ℕ → Action
  Accept Error : Action

-- whether the bit of an item at the token is set; without an item none is
abbrev pub bit_or_none : Option (List Bool) → ℕ → Bool
bit_or_none None t = false
bit_or_none (Some v) t = slice_index_or v t false

-- whether the item of the item set looks at the token
abbrev pub looks_at : Items → ℕ → ℕ → ℕ → Bool
looks_at a p d t = bit_or_none (item_at a p d) t

-- whether the complete production `p` looks at the token
abbrev pub is_complete_at : Grammar → Items → ℕ → ℕ → Bool
is_complete_at g a t p = looks_at a p (length (body_of g p)) t

-- the complete productions of the item set that look at the token, upwards, without the start
-- production
abbrev pub reductions : Grammar → Items → ℕ → List ℕ
reductions g a t =
    filter
    (λ p. not (p == g.start_production) && is_complete_at g a t p)
    (range_with_len 0 (length g.productions))

-- what contends for the cell of the state and the token
pub data IsContender (g : Grammar) (h : Graph) (s t : ℕ) : Candidate → Type 0 where
  shift : {u : ℕ} → edge h s (Token t) ≡ Some u → IsContender g h s t candidate.Candidate.Shift
  reduce :
      {p : ℕ} → p ≢ g.start_production → LooksIn (closed_of h s) p (length (body_of g p)) t
      → IsContender g h s t (candidate.Candidate.Reduce p)
  accept :
      LooksIn (closed_of h s) g.start_production (length (body_of g g.start_production)) t
      → IsContender g h s t candidate.Candidate.Accept

-- the cell has two contenders
pub record IsCrowded (g : Grammar) (h : Graph) (s t : ℕ) : Type 0 where
  pub one : Candidate
  pub other : Candidate
  pub differ : one ≢ other
  pub is_one : IsContender g h s t one
  pub is_other : IsContender g h s t other

-- no cell of the graph is crowded
abbrev pub NoCellIsCrowded : Grammar → Graph → Type 0
NoCellIsCrowded g h = (s t : ℕ) → s < length h → IsCrowded g h s t → ⊥

-- a token and a production of one level: left groups by reducing, right by shifting, and nonassoc
-- not at all
abbrev pub by_kind : Kind → ℕ → ℕ → Action
by_kind Left u p = Reduce p
by_kind Right u p = Shift u
by_kind Nonassoc u p = Error

-- an edge to `u` against the production `p`, by the precedences of the token and of the production:
-- the higher level wins; without one of them the edge does, and the cell is listed
abbrev pub decide : Option Precedence → Option Precedence → ℕ → ℕ → Action
decide None o u p = Shift u
decide (Some a) None u p = Shift u
decide (Some a) (Some b) u p =
    if nat_lt b.level a.level then Shift u
    else if nat_lt a.level b.level then Reduce p
    else by_kind a.kind u p

-- the value of a cell, by the reductions on the token `t`, the edge on it, and whether the start
-- production is accepted
abbrev pub cell_by : Grammar → ℕ → List ℕ → Option ℕ → Bool → Action
cell_by g t [] None accepts = if accepts then Accept else Error
cell_by g t [] (Some u) accepts = Shift u
cell_by g t (p ∷ ps) None accepts = Reduce p
cell_by g t (p ∷ ps) (Some u) accepts =
    decide (token_precedence g t) (production_precedence g p) u p

-- whether the complete start production looks at the token
abbrev pub accepts_at : Grammar → Items → ℕ → Bool
accepts_at g a t = is_complete_at g a t g.start_production

-- the cell of the state and the token
abbrev pub cell_of : Grammar → Graph → ℕ → ℕ → Action
cell_of g h s t =
    cell_by g t
    (reductions g (closed_of h s) t)
    (edge h s (Token t))
    (accepts_at g (closed_of h s) t)

-- the entry for the token `t` in `s`: the least reduction, and `q`, another one
abbrev pub reduce_reduce_entry : List ℕ → ℕ → ℕ → ℕ → Option (ℕ × ℕ × ℕ × ℕ)
reduce_reduce_entry [] s q t = None
reduce_reduce_entry (p ∷ ps) s q t = if list_any (λ r. r == q) ps then Some (t, p, q, s) else None

-- token, least reduction, other reduction and state, by state, then other reduction, then token
abbrev pub reduce_reduce_of : Grammar → Graph → List (ℕ × ℕ × ℕ × ℕ)
reduce_reduce_of g h =
    let states = range_with_len 0 (length h) in
    let productions = range_with_len 0 (length g.productions) in
    let tokens = range_with_len 0 (token_count g) in
    let on : ℕ → ℕ → List ℕ = λ s t. reductions g (closed_of h s) t in
    flat_map
    (λ s. flat_map (λ q. filter_map (λ t. reduce_reduce_entry (on s t) s q t) tokens) productions)
    states

-- a cell with an edge and a reduction is listed unless token and production both have a precedence
abbrev pub listed : Option Precedence → Option Precedence → ℕ × ℕ × ℕ → Option (ℕ × ℕ × ℕ)
listed None o e = Some e
listed (Some a) None e = Some e
listed (Some a) (Some b) e = None

-- the entry for the token `t` in `s`, by its reductions and the edge on it
abbrev pub shift_reduce_entry : Grammar → List ℕ → Option ℕ → ℕ → ℕ → Option (ℕ × ℕ × ℕ)
shift_reduce_entry g [] o s t = None
shift_reduce_entry g (p ∷ ps) None s t = None
shift_reduce_entry g (p ∷ ps) (Some u) s t =
    listed (token_precedence g t) (production_precedence g p) (t, p, s)

-- token, least reduction and state of each listed cell, by state, then token
abbrev pub shift_reduce_of : Grammar → Graph → List (ℕ × ℕ × ℕ)
shift_reduce_of g h =
    let states = range_with_len 0 (length h) in
    let tokens = range_with_len 0 (token_count g) in
    let on : ℕ → ℕ → List ℕ = λ s t. reductions g (closed_of h s) t in
    flat_map
    (λ s. filter_map (λ t. shift_reduce_entry g (on s t) (edge h s (Token t)) s t) tokens)
    states

-- a state accepts at the end of the text and reduces by `p` there too
pub record AcceptsAndReduces (g : Grammar) (h : Graph) (s p : ℕ) : Type 0 where
  pub below : s < length h
  pub differ : p ≢ g.start_production
  pub accepts :
      LooksIn (closed_of h s) g.start_production
      (length (body_of g g.start_production)) (end_token g)
  pub reduces : LooksIn (closed_of h s) p (length (body_of g p)) (end_token g)

-- a table: its start state; for each state a cell a token, and where each rule leads; its lists of
-- conflicts
pub record Table : Type 0 where
  pub start : ℕ
  pub actions : List (List Action)
  pub gotos : List (List (Option ℕ))
  pub reduce_reduce : List (ℕ × ℕ × ℕ × ℕ)
  pub shift_reduce : List (ℕ × ℕ × ℕ)

-- lists of conflicts: the reduce/reduce ones, and the shift/reduce ones
pub record Lists : Type 0 where
  pub reduce_reduce : List (ℕ × ℕ × ℕ × ℕ)
  pub shift_reduce : List (ℕ × ℕ × ℕ)

-- both lists of a table
abbrev pub lists_of : Table → Lists
lists_of b = record { reduce_reduce = b.reduce_reduce; shift_reduce = b.shift_reduce }

-- the cell of the state and the token, an error where there is none
abbrev pub action_of : Table → ℕ → ℕ → Action
action_of b s t = slice_index_or (slice_index_or b.actions s []) t Error

-- where the rule leads from the state
abbrev pub goto_of : Table → ℕ → ℕ → Option ℕ
goto_of b s r = slice_index_or (slice_index_or b.gotos s []) r None

-- a grid of `n` rows, each of `m` places
pub record IsGrid {X : Type 0} (n m : ℕ) (grid : List (List X)) : Type 0 where
  pub rows : length grid ≡ n
  pub places : All (λ row. length row ≡ m) grid

-- the table is that of the graph: it has a row for each state, in which it has a cell for each
-- token, and a place for where each rule leads, and it has no others
pub record IsTableOf (g : Grammar) (h : Graph) (b : Table) : Type 0 where
  pub no_contest : (s p : ℕ) → AcceptsAndReduces g h s p → ⊥
  pub start : b.start ≡ 0
  pub action_grid : IsGrid (length h) (token_count g) b.actions
  pub goto_grid : IsGrid (length h) (length g.rule_names) b.gotos
  pub cells : (s t : ℕ) → s < length h → t < token_count g → action_of b s t ≡ cell_of g h s t
  pub gotos :
      (s r : ℕ) → s < length h → r < length g.rule_names → goto_of b s r ≡ edge h s (Rule r)
  pub reduce_reduce : b.reduce_reduce ≡ reduce_reduce_of g h
  pub shift_reduce : b.shift_reduce ≡ shift_reduce_of g h

-- the table is of a graph of the grammar
pub record IsTableFor (g : Grammar) (b : Table) : Type 0 where
  pub graph : Graph
  pub graph_of : IsGraphOf g graph
  pub table_of : IsTableOf g graph b

-- no cell of the table is crowded: it is of a graph of the grammar without a crowded cell
pub record IsUncrowded (g : Grammar) (b : Table) : Type 0 where
  pub graph : Graph
  pub graph_of : IsGraphOf g graph
  pub table_of : IsTableOf g graph b
  pub uncrowded : NoCellIsCrowded g graph
