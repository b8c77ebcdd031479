-- what a table has of the first states of a graph
use Rattle.std.specs.Prelude.{◌≡◌, ℕ, ◌<◌, Bool, IsTrue, length, slice_index_or, ◌↔◌, ◌⊎◌}
use Rattle.std.specs.List.{flat_map, range_with_len}
use Rattle.std.specs.declared.vec.Vec.{Vec}
use Rattle.std.specs.declared.alloc.Global.{Global}
use Rattle.lrgrammar.specs.declared.idx.PIdx.{PIdx}
use Rattle.lrspec.specs.grammars.Grammar.{Grammar, token_count}
use Rattle.lrspec.specs.merging.Graph.{Graph}
use Rattle.lrspec.specs.tables.Table.{Action, Reduce, Error, cell_of}
use Rattle.lrspec.specs.tables.Rows.{AreAllWith}
use Rattle.lrsparse.specs.Building.{so_far, empty_of, IsBuilt}
use Rattle.lrrows.specs.StateRows.{action_row, goto_row, reduce_reduce_at, shift_reduce_at}
use Rattle.lrgrammar.specs.StoredGrammar.{numbers_of}
use Rattle.lrrows.specs.StoredLists.{stored_reduce_reduces, stored_shift_reduces}
use Rattle.lrrows.specs.declared.rows.Rows.{Rows}

-- the state has a cell with the action
abbrev pub HasCell : Grammar → Graph → ℕ → Action → Type 0
HasCell g h s a = (t : ℕ) × (t < token_count g) × (cell_of g h s t ≡ a)

-- the cells of the state reduce by one production, and else err
abbrev pub ReduceByOne : Grammar → Graph → ℕ → Type 0
ReduceByOne g h s =
    (p : ℕ) × HasCell g h s (Reduce p)
    × ((t : ℕ) → t < token_count g → (cell_of g h s t ≡ Error) ⊎ (cell_of g h s t ≡ Reduce p))

-- the rows are those of the first `n` states
pub record AreRowsOf {T : Type 0} (number : T → ℕ) (g : Grammar) (h : Graph) (n : ℕ)
    (r : Rows T) : Type 0 where
  pub built_actions : IsBuilt r.actions
  pub tokens : (so_far r.actions).cols ≡ token_count g
  pub actions : (so_far r.actions).cells ≡ flat_map (action_row g h) (range_with_len 0 n)
  pub built_gotos : IsBuilt r.gotos
  pub rules : (so_far r.gotos).cols ≡ length g.rule_names
  pub gotos : (so_far r.gotos).cells ≡ flat_map (goto_row g h) (range_with_len 0 n)
  pub count : length r.core_reduces.items ≡ n
  pub reduces :
      (s : ℕ) (d : Vec (PIdx T) Global) → s < n
      → AreAllWith (λ p. HasCell g h s (Reduce p))
      (numbers_of number (slice_index_or r.core_reduces.items s d).items)
  pub counted : length r.reduce_only.items ≡ n
  pub only : (s : ℕ) (d : Bool) → s < n
      → IsTrue (slice_index_or r.reduce_only.items s d) ↔ ReduceByOne g h s
  pub reduce_reduce : stored_reduce_reduces number r.reduce_reduce.items
      ≡ flat_map (reduce_reduce_at g h) (range_with_len 0 n)
  pub shift_reduce : stored_shift_reduces number r.shift_reduce.items
      ≡ flat_map (shift_reduce_at g h) (range_with_len 0 n)

-- in most cells of the rows 0 stands
pub record HaveZeros {T : Type 0} (r : Rows T) : Type 0 where
  pub actions : empty_of r.actions ≡ 0
  pub gotos : empty_of r.gotos ≡ 0
