-- sentences that the parser rejects
use Rattle.std.specs.Prelude.{◌≡◌, ◌≢◌, ℕ, ◌+◌, Bool, List, Option, None, Some, All, IsTrue, map}
use Rattle.lrspec.specs.grammars.Grammar.{Token, Grammar}
use Rattle.lrspec.specs.merging.Graph.{Graph, edge}
use Rattle.lrspec.specs.tables.Table.{Table}
use Rattle.lrlosses.specs.Losses.{Place, StopsAt}
use Rattle.lrcharts.specs.Ways.{HasNoTreeLeft}
use Rattle.lrverdicts.specs.declared.conflicts.Entry.{Entry}
use Rattle.lrfindings.specs.Cells.{Cell}
use Rattle.lrfindings.specs.declared.findings.Findings.{Findings}
use Rattle.lrshown.specs.declared.losses.Loss.{Loss}
use Rattle.lrshown.specs.Losses.{IsLostAt}

-- the machine of the table rejects the sentence at a place in whose state the token can't be shifted: so it is not `%nonassoc`
-- that makes the cell an error
pub record StopsWithoutShift (g : Grammar) (h : Graph) (b : Table) (l : Loss) : Type 0 where
  pub rejected : Place
  pub stops : StopsAt g b l.tokens.items rejected
  pub stop : rejected.used ≡ l.stop
  pub no_shift : edge h rejected.state (Token rejected.token) ≡ None

-- what the table does where the sentence goes wrong is to blame for that: behind that step no tree of it is left
abbrev pub IsDoomed : Grammar → Table → Loss → Type 0
IsDoomed g b l = HasNoTreeLeft g b l.tokens.items (l.made + 1)

-- the cell of an entry
abbrev pub cell_of : Entry → Cell
cell_of e = (e.state, e.token)

-- the cells in which precedences resolve something
abbrev pub resolved_cells : Findings → List Cell
resolved_cells f = map (λ r. cell_of r.entry) f.resolved.items

-- the cells of the conflicts that the table lists
abbrev pub listed_cells : Findings → List Cell
listed_cells f = map cell_of f.conflicts.items

-- no cell is in both lists
abbrev pub AreApart : List Cell → List Cell → Type 0
AreApart cells others = All (λ c. All (λ d. c ≢ d) others) cells

-- where precedences resolve something, the table lists no conflict: the shift meets one reduction only
abbrev pub ResolvesPairs : Findings → Type 0
ResolvesPairs f = AreApart (resolved_cells f) (listed_cells f)

-- where sentences are looked for that the parser rejects: a grammar, its graph and table, the cells in which precedences resolve
-- something, and those of the conflicts that the table lists
pub record Searched : Type 0 where
  pub grammar : Grammar
  pub graph : Graph
  pub table : Table
  pub resolved : List Cell
  pub listed : List Cell

-- these of what was found, and of its graph
abbrev pub searched : Findings → Graph → Searched
searched f h = record {
  grammar = f.grm;
  graph = h;
  table = f.table;
  resolved = resolved_cells f;
  listed = listed_cells f;
}

-- the sentence is doomed in what is searched
abbrev pub IsDoomedIn : Searched → Loss → Type 0
IsDoomedIn x l = IsDoomed x.grammar x.table l

-- the sentence is lost in the state `s`, where the token `t` comes, not by `%nonassoc`, and where Bison's table does the same
pub record IsFoundLoss (x : Searched) (s t : ℕ) (l : Loss) : Type 0 where
  pub lost : IsLostAt x.grammar x.table s t l
  pub stops : StopsWithoutShift x.grammar x.graph x.table l
  pub apart : AreApart x.resolved x.listed

-- what is told is what was found, which is doomed where that is asked
abbrev pub IsToldOf : Searched → Option Loss → Bool → Loss → Type 0
IsToldOf x found must l = (found ≡ Some l) × (IsTrue must → IsDoomedIn x l)
