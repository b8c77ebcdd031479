-- the table that is made of the rows of all states: it is that of the graph, and keeps what a table keeps
use Rattle.std.proofs.Common.{◌≡◌, ℕ, ◌*◌, ◌≤◌, List, [], ◌∷◌, Option, None, Some, length, map, refl, sym, subst, ap, ◌∙◌, arith}
use Rattle.std.specs.Prelude.{MatchOption, IfSome}
use Rattle.std.specs.List.{flat_map, range_with_len, All}
use Rattle.lrspec.specs.grammars.Grammar.{Grammar, token_count}
use Rattle.lrspec.specs.merging.Graph.{Graph}
use Rattle.lrspec.specs.tables.Table.{Table, Lists, lists_of, AcceptsAndReduces, IsTableOf}
use Rattle.lrspec.specs.tables.Conflicts.{AreEntriesOf}
use Rattle.lrgrammar.specs.GrammarSizes.{IsWithin}
use Rattle.lrsparse.specs.Matrix.{Matrix}
use Rattle.lrsparse.specs.Building.{so_far}
use Rattle.lrrows.specs.ReadGraphs.{IsReadable}
use Rattle.lrrows.specs.StateRows.{action_row, goto_row}
use Rattle.lrrows.specs.StoredActions.{action_numbered, goto_numbered, IsIndexed}
use Rattle.lrrows.specs.StoredLists.{stored_reduce_reduces, stored_shift_reduces}
use Rattle.lrcells.specs.StoredTable.{table_of, lists_or_none, AreCells, AreGotos, AreKeptOfRows, AreKept}
use Rattle.lrrows.specs.RowsOf.{AreRowsOf}
use Rattle.lrrows.specs.declared.rows.Rows.{Rows}
use Rattle.lrcells.proofs.FlattenedRows.{length_of_rows, all_of_rows}
use Rattle.lrrows.proofs.IndexedRows.{indexed_action_row, indexed_goto_row}
use Rattle.lrcells.proofs.TableOfRows.{HasRowsOf, length_of_action_row, length_of_goto_row, made_of_graph, reduced_by, reduces_only}
use Rattle.lrspec.proofs.tables.ConflictEntries.{entries_in_range}

-- both lists of conflicts by numbers
abbrev pub lists_of_rows : {T : Type 0} → (T → ℕ) → Rows T → Lists
lists_of_rows number r = record { reduce_reduce = stored_reduce_reduces number r.reduce_reduce.items; shift_reduce = stored_shift_reduces number r.shift_reduce.items }

-- a table is kept of these rows: its matrices have their cells and gotos, and its conflicts are theirs
pub record IsKeptOf {T : Type 0} (number : T → ℕ) (r : Rows T) (actions gotos : Matrix) (kept : Option Lists) : Type 0 where
  pub actions_are : actions ≡ so_far r.actions
  pub gotos_are : gotos ≡ so_far r.gotos
  pub none :
      MatchOption kept ((r.reduce_reduce.items ≡ []) × (r.shift_reduce.items ≡ []))
      (λ c. ¬ ((r.reduce_reduce.items ≡ []) × (r.shift_reduce.items ≡ [])))
  pub lists : IfSome kept (λ c. c ≡ lists_of_rows number r)

none_of_map : {X Y : Type 0} (f : X → Y) (xs : List X) → map f xs ≡ [] → xs ≡ []
none_of_map f [] e = refl
none_of_map f (x ∷ xs) e = cc

module _ {T : Type 0} (number : T → ℕ) (r : Rows T) where
  -- the lists of the conflicts that are kept are those of the rows
  lists_kept :
      (kept : Option Lists)
      → MatchOption kept ((r.reduce_reduce.items ≡ []) × (r.shift_reduce.items ≡ []))
      (λ c. ¬ ((r.reduce_reduce.items ≡ []) × (r.shift_reduce.items ≡ [])))
      → IfSome kept (λ c. c ≡ lists_of_rows number r) → lists_or_none kept ≡ lists_of_rows number r
  lists_kept None (e, f) m = ap (λ xs. record { reduce_reduce = stored_reduce_reduces number xs; shift_reduce = [] }) (sym e) ∙ ap (λ xs. record { reduce_reduce = stored_reduce_reduces number r.reduce_reduce.items; shift_reduce = stored_shift_reduces number xs }) (sym f)
  lists_kept (Some c) l m = m

  -- conflicts are kept where there are any
  pub some_kept :
      (kept : Option Lists)
      → MatchOption kept ((r.reduce_reduce.items ≡ []) × (r.shift_reduce.items ≡ []))
      (λ c. ¬ ((r.reduce_reduce.items ≡ []) × (r.shift_reduce.items ≡ [])))
      → IfSome kept (λ c. c ≡ lists_of_rows number r) → AreKept kept
  some_kept None l m = tt
  some_kept (Some c) l m = λ (e, f).
      l (none_of_map _ r.reduce_reduce.items (sym (ap (λ (k : Lists). k.reduce_reduce) m) ∙ e), none_of_map _ r.shift_reduce.items (sym (ap (λ (k : Lists). k.shift_reduce) m) ∙ f))

module _
    {T : Type 0} (number : T → ℕ) (g : Grammar) (h : Graph) (r : Rows T) (actions gotos : Matrix) (kept : Option Lists)
    (rows : AreRowsOf number g h (length h) r) (is_kept : IsKeptOf number r actions gotos kept)
  where
    -- the table
    abbrev made : Table
    made = table_of (length r.core_reduces.items) actions gotos kept

    matrices : HasRowsOf g h (length r.core_reduces.items) actions gotos
    matrices = record {
      states = rows.count;
      tokens = ap (λ (m : Matrix). m.cols) is_kept.actions_are ∙ rows.tokens;
      cells = ap (λ (m : Matrix). m.cells) is_kept.actions_are ∙ (rows.actions ∙ ap (λ k. flat_map (action_row g h) (range_with_len 0 k)) (sym rows.count));
      rules = ap (λ (m : Matrix). m.cols) is_kept.gotos_are ∙ rows.rules;
      edges = ap (λ (m : Matrix). m.cells) is_kept.gotos_are ∙ (rows.gotos ∙ ap (λ k. flat_map (goto_row g h) (range_with_len 0 k)) (sym rows.count));
    }

    pub made_cells : (most : ℕ) → IsReadable g h → IsWithin most g → length h ≤ most → AreCells most (length r.core_reduces.items) actions
    made_cells most m w l = record {
      rows = ap length matrices.cells ∙ (length_of_rows (action_row g h) (token_count g) (length_of_action_row g h) (length r.core_reduces.items) ∙ ap (λ k. length r.core_reduces.items * k) (sym matrices.tokens));
      columns = omega (arith, matrices.tokens, w.tokens);
      indexed = subst (All (λ c. IsIndexed most (action_numbered c))) (sym matrices.cells)
          (all_of_rows (λ c. IsIndexed most (action_numbered c)) (action_row g h) 0 (length r.core_reduces.items) (λ s k i. indexed_action_row g h most s m w l));
    }

    pub made_gotos : (most : ℕ) → IsReadable g h → length h ≤ most → AreGotos most (length r.core_reduces.items) gotos
    made_gotos most m l = record {
      rows = ap length matrices.edges ∙ (length_of_rows (goto_row g h) (length g.rule_names) (length_of_goto_row g h) (length r.core_reduces.items) ∙ ap (λ k. length r.core_reduces.items * k) (sym matrices.rules));
      indexed = subst (All (λ c. IfSome (goto_numbered c) (λ s. s ≤ most))) (sym matrices.edges)
          (all_of_rows (λ c. IfSome (goto_numbered c) (λ s. s ≤ most)) (goto_row g h) 0 (length r.core_reduces.items) (λ s k i. indexed_goto_row g h most s m l));
    }

    pub made_kept : AreKeptOfRows number made r.core_reduces.items r.reduce_only.items
    made_kept = record {
      count = rows.counted ∙ sym rows.count;
      reduces = λ s d l. reduced_by g h (length r.core_reduces.items) actions gotos kept matrices s _ l (rows.reduces s d (omega (arith, rows.count)));
      only = λ s d l.
          let those = rows.only s d (omega (arith, rows.count)) in
          let these = reduces_only g h (length r.core_reduces.items) actions gotos kept matrices s l in
          (λ e. these.0 (those.0 e), λ e. those.1 (these.1 e));
    }

    pub made_some : AreKept kept
    made_some = some_kept number r kept is_kept.none is_kept.lists

    -- the table is that of the graph
    pub made_table : ((s p : ℕ) → AcceptsAndReduces g h s p → ⊥) → IsTableOf g h made
    made_table none =
        let lists = lists_kept number r kept is_kept.none is_kept.lists in
        made_of_graph g h (length r.core_reduces.items) actions gotos kept matrices none
        (ap (λ (k : Lists). k.reduce_reduce) lists ∙ rows.reduce_reduce)
        (ap (λ (k : Lists). k.shift_reduce) lists ∙ rows.shift_reduce)

    pub made_entries : ((s p : ℕ) → AcceptsAndReduces g h s p → ⊥) → AreEntriesOf g (lists_of made)
    made_entries none = entries_in_range g h made (made_table none)
