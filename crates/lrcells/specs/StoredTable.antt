-- a stored table as plain data, and what it keeps
use Rattle.std.specs.Prelude.{◌≡◌, ℕ, ◌+◌, ◌*◌, ◌<◌, ◌≤◌, Bool, IsTrue, List, [], Option, None, Some, IfSome, map, length, slice_index_or, ◌↔◌}
use Rattle.std.specs.List.{All, range_with_len}
use Rattle.std.specs.declared.vec.Vec.{Vec}
use Rattle.std.specs.declared.alloc.Global.{Global}
use Rattle.lrgrammar.specs.declared.idx.PIdx.{PIdx}
use Rattle.lrspec.specs.tables.Table.{Table, Lists}
use Rattle.lrspec.specs.tables.Rows.{AreReducedBy, ReducesOnly}
use Rattle.lrsparse.specs.Matrix.{Matrix}
use Rattle.lrgrammar.specs.StoredGrammar.{numbers_of}
use Rattle.lrrows.specs.StoredActions.{action_numbered, goto_numbered, IsIndexed}

-- the first `n` rows of a matrix, where `f` tells what each number says
abbrev pub grid_of : {X : Type 0} → (ℕ → X) → ℕ → Matrix → List (List X)
grid_of f n m =
    map (λ s. map (λ c. f (slice_index_or m.cells (s * m.cols + c) 0)) (range_with_len 0 m.cols))
    (range_with_len 0 n)

-- both lists, empty where there are no conflicts
abbrev pub lists_or_none : Option Lists → Lists
lists_or_none None = record { reduce_reduce = []; shift_reduce = [] }
lists_or_none (Some c) = c

-- a table whose cells and gotos are kept by their numbers
abbrev pub table_of : ℕ → Matrix → Matrix → Option Lists → Table
table_of n actions gotos conflicts =
    record {
      start = 0;
      actions = grid_of action_numbered n actions;
      gotos = grid_of goto_numbered n gotos;
      reduce_reduce = (lists_or_none conflicts).reduce_reduce;
      shift_reduce = (lists_or_none conflicts).shift_reduce;
    }

-- there are `n` rows of cells, which say states and productions up to the greatest index
pub record AreCells (most n : ℕ) (actions : Matrix) : Type 0 where
  pub rows : length actions.cells ≡ n * actions.cols
  pub columns : actions.cols ≤ most
  pub indexed : All (λ c. IsIndexed most (action_numbered c)) actions.cells

-- there are `n` rows of gotos, which lead to states up to the greatest index
pub record AreGotos (most n : ℕ) (gotos : Matrix) : Type 0 where
  pub rows : length gotos.cells ≡ n * gotos.cols
  pub indexed : All (λ c. IfSome (goto_numbered c) (λ s. s ≤ most)) gotos.cells

-- what is kept of the rows of a table: by which productions each reduces, and whether it does nothing else
pub record AreKeptOfRows {T : Type 0} (number : T → ℕ) (b : Table)
    (prods : List (Vec (PIdx T) Global)) (alone : List Bool) : Type 0 where
  pub count : length alone ≡ length prods
  pub reduces : (s : ℕ) (d : Vec (PIdx T) Global) → s < length prods
      → AreReducedBy b s (numbers_of number (slice_index_or prods s d).items)
  pub only : (s : ℕ) (d : Bool) → s < length prods
      → IsTrue (slice_index_or alone s d) ↔ ReducesOnly b s

-- conflicts are kept where there are any
abbrev pub AreKept : Option Lists → Type 0
AreKept None = Unit {0}
AreKept (Some c) = ¬ ((c.reduce_reduce ≡ []) × (c.shift_reduce ≡ []))
