-- the table whose matrices have the rows of the states of a graph is that of the graph
use Rattle.std.proofs.Common.{◌≡◌, ◌≢◌, ℕ, ◌+◌, ◌*◌, ◌<◌, ◌≤◌, List, Option, None, length, refl, sym, subst, ap, ◌∙◌, ◌⊎◌, inl, inr, ◌↔◌, arith, get_or}
use Rattle.std.specs.List.{flat_map, range_with_len}
use Rattle.std.proofs.lemmas.List.FromFn.{get_or-map-range_with_len, length-map-range_with_len}
use Rattle.std.proofs.lemmas.Bool.{cases_lt}
use Rattle.lrspec.specs.grammars.Grammar.{Grammar, Rule, token_count}
use Rattle.lrspec.specs.merging.Graph.{Graph, edge}
use Rattle.lrspec.specs.tables.Table.{Action, Reduce, Error, Table, Lists, action_of, goto_of, cell_of, reduce_reduce_of, shift_reduce_of, AcceptsAndReduces, IsGrid, IsTableOf}
use Rattle.lrspec.specs.tables.Rows.{AreAllWith, AreReducedBy, ReducesOnly}
use Rattle.lrspec.proofs.tables.TableGrids.{outside_grid, inside_grid}
use Rattle.lrsparse.specs.Matrix.{Matrix}
use Rattle.lrrows.specs.StoredActions.{action_number, action_numbered, goto_number, goto_numbered}
use Rattle.lrcells.specs.StoredTable.{lists_or_none, table_of}
use Rattle.lrrows.specs.StateRows.{action_row, goto_row}
use Rattle.lrrows.specs.RowsOf.{HasCell, ReduceByOne}
use Rattle.lrrows.proofs.KeptNumbers.{numbered_action, numbered_goto}
use Rattle.lrcells.proofs.StoredTables.{grid_of_rows, cell_there}
use Rattle.lrcells.proofs.FlattenedRows.{cell_of_rows}

-- so many cells has each row
pub length_of_action_row : (g : Grammar) (h : Graph) (s : ℕ) → length (action_row g h s) ≡ token_count g
length_of_action_row g h s = length-map-range_with_len (λ t. action_number (cell_of g h s t)) 0 (token_count g)

pub length_of_goto_row : (g : Grammar) (h : Graph) (s : ℕ) → length (goto_row g h s) ≡ length g.rule_names
length_of_goto_row g h s = length-map-range_with_len (λ r. goto_number (edge h s (Rule r))) 0 (length g.rule_names)

-- the matrices have the rows of the `n` states of the graph
pub record HasRowsOf (g : Grammar) (h : Graph) (n : ℕ) (actions gotos : Matrix) : Type 0 where
  pub states : n ≡ length h
  pub tokens : actions.cols ≡ token_count g
  pub cells : actions.cells ≡ flat_map (action_row g h) (range_with_len 0 n)
  pub rules : gotos.cols ≡ length g.rule_names
  pub edges : gotos.cells ≡ flat_map (goto_row g h) (range_with_len 0 n)

module _ (g : Grammar) (h : Graph) (n : ℕ) (actions gotos : Matrix) (kept : Option Lists) (has : HasRowsOf g h n actions gotos) where
  -- the table of the matrices
  abbrev pub made : Table
  made = table_of n actions gotos kept

  pub cell_made : (s t : ℕ) → s < n → t < token_count g → action_of made s t ≡ cell_of g h s t
  cell_made s t l k =
      cell_there action_numbered Error n actions s t l (omega (arith, has.tokens))
      ∙ (ap action_numbered (
      ap (λ cells. get_or cells (s * actions.cols + t) 0) has.cells
      ∙ (ap (λ cols. get_or (flat_map (action_row g h) (range_with_len 0 n)) (s * cols + t) 0) has.tokens
      ∙ (cell_of_rows (action_row g h) (token_count g) (length_of_action_row g h) n s t 0 l k
      ∙ get_or-map-range_with_len (λ u. action_number (cell_of g h s u)) 0 (token_count g) t t 0 k (omega arith))))
      ∙ numbered_action (cell_of g h s t))

  pub goto_made : (s r : ℕ) → s < n → r < length g.rule_names → goto_of made s r ≡ edge h s (Rule r)
  goto_made s r l k =
      cell_there goto_numbered None n gotos s r l (omega (arith, has.rules))
      ∙ (ap goto_numbered (
      ap (λ cells. get_or cells (s * gotos.cols + r) 0) has.edges
      ∙ (ap (λ cols. get_or (flat_map (goto_row g h) (range_with_len 0 n)) (s * cols + r) 0) has.rules
      ∙ (cell_of_rows (goto_row g h) (length g.rule_names) (length_of_goto_row g h) n s r 0 l k
      ∙ get_or-map-range_with_len (λ u. goto_number (edge h s (Rule u))) 0 (length g.rule_names) r r 0 k (omega arith))))
      ∙ numbered_goto (edge h s (Rule r)))

  -- both matrices have the rows and the places of a table of the graph
  actions_made : IsGrid n (token_count g) made.actions
  actions_made = subst (λ m. IsGrid n m made.actions) has.tokens (grid_of_rows action_numbered n actions)

  gotos_made : IsGrid n (length g.rule_names) made.gotos
  gotos_made = subst (λ m. IsGrid n m made.gotos) has.rules (grid_of_rows goto_numbered n gotos)

  pub made_of_graph :
      ((s p : ℕ) → AcceptsAndReduces g h s p → ⊥)
      → (lists_or_none kept).reduce_reduce ≡ reduce_reduce_of g h
      → (lists_or_none kept).shift_reduce ≡ shift_reduce_of g h
      → IsTableOf g h made
  made_of_graph none pairs mixes = record {
    no_contest = none;
    start = refl;
    action_grid = subst (λ k. IsGrid k (token_count g) made.actions) has.states actions_made;
    goto_grid = subst (λ k. IsGrid k (length g.rule_names) made.gotos) has.states gotos_made;
    cells = λ s t l k. cell_made s t (omega (arith, has.states)) k;
    gotos = λ s r l k. goto_made s r (omega (arith, has.states)) k;
    reduce_reduce = pairs;
    shift_reduce = mixes;
  }

  -- a row of the table has an action other than an error exactly if the state has a cell with it
  cell_kept : (s : ℕ) (a : Action) → s < n → a ≢ Error → HasCell g h s a ↔ ((t : ℕ) × (action_of made s t ≡ a))
  cell_kept s a l not_error = (
    λ (t, k, e). (t, cell_made s t l k ∙ e),
    λ (t, e).
        let k = (inside_grid made.actions actions_made s t Error (λ i. not_error (sym e ∙ i))).1 in
        (t, k, sym (cell_made s t l k) ∙ e),
  )

  -- the productions by which the cells of a state reduce are those by which the row does
  pub reduced_by : (s : ℕ) (ps : List ℕ) → s < n → AreAllWith (λ p. HasCell g h s (Reduce p)) ps → AreReducedBy made s ps
  reduced_by s ps l all = record {
    upwards = all.upwards;
    members = λ p.
        let cells = cell_kept s (Reduce p) l (λ e. cc) in
        (λ c. cells.0 ((all.members p).0 c), λ c. (all.members p).1 (cells.1 c));
  }

  -- the cells of a state reduce by one production and else err exactly if the row does so
  pub reduces_only : (s : ℕ) → s < n → ReduceByOne g h s ↔ ReducesOnly made s
  reduces_only s l = (to, back)
    where
      either : (t p : ℕ) → ((t : ℕ) → t < token_count g → (cell_of g h s t ≡ Error) ⊎ (cell_of g h s t ≡ Reduce p)) → (t < token_count g) ⊎ (token_count g ≤ t)
          → (action_of made s t ≡ Error) ⊎ (action_of made s t ≡ Reduce p)
      either t p each (inl k) = moved (each t k)
        where
          moved : (cell_of g h s t ≡ Error) ⊎ (cell_of g h s t ≡ Reduce p) → (action_of made s t ≡ Error) ⊎ (action_of made s t ≡ Reduce p)
          moved (inl e) = inl (cell_made s t l k ∙ e)
          moved (inr e) = inr (cell_made s t l k ∙ e)
      either t p each (inr k) = inl (outside_grid made.actions actions_made s t Error (inr k))

      to : ReduceByOne g h s → ReducesOnly made s
      to (p, some, each) = (p, (cell_kept s (Reduce p) l (λ e. cc)).0 some, λ t. either t p each (cases_lt t (token_count g)))

      back : ReducesOnly made s → ReduceByOne g h s
      back (p, some, each) = (
        p,
        (cell_kept s (Reduce p) l (λ e. cc)).1 some,
        λ t k. subst (λ a. (a ≡ Error) ⊎ (a ≡ Reduce p)) (cell_made s t l k) (each t),
      )
