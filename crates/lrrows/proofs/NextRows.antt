-- the rows of one state more
use Rattle.std.proofs.Common.{◌≡◌, ◌≢◌, ℕ, ◌+◌, ◌<◌, Bool, IsTrue, Option, List, [], ◌∷◌, ◌++◌, length, map, get_or, refl, sym, ap, ◌∙◌, ◌↔◌, ⊎_elim, arith, Contains, add-one}
use Rattle.std.specs.List.{flat_map, range_with_len}
use Rattle.std.specs.declared.vec.Vec.{Vec}
use Rattle.std.specs.declared.alloc.Global.{Global}
use Rattle.std.proofs.lemmas.Bool.{cases_eq}
use Rattle.std.proofs.lemmas.List.{get_or_push, get_or_append_left, length_push, length-map, flat_map_more}
use Rattle.std.proofs.lemmas.List.FromFn.{length-map-range_with_len, get_or-map-range_with_len}
use Rattle.lrgrammar.specs.declared.idx.PIdx.{PIdx}
use Rattle.lrgrammar.proofs.Ranges.{range_more}
use Rattle.lrspec.specs.grammars.Grammar.{Grammar, token_count}
use Rattle.lrspec.specs.grammars.ItemSets.{Items, AreUpwards, Fits}
use Rattle.lrspec.specs.merging.Graph.{Graph, closed_of}
use Rattle.lrspec.specs.tables.Table.{Action, Reduce, Error, cell_of}
use Rattle.lrspec.specs.tables.Rows.{AreAllWith}
use Rattle.lrsparse.specs.declared.builder.MatrixBuilder.{MatrixBuilder}
use Rattle.lrsparse.specs.Building.{so_far, empty_of, IsBuilt}
use Rattle.lrsparse.specs.Entries.{row_with}
use Rattle.lrrows.specs.declared.rows.Rows.{Rows}
use Rattle.lrrows.specs.ReduceReduce.{reduce_reduce_by}
use Rattle.lrrows.specs.ReducingRows.{ReducesByOne}
use Rattle.lrrows.specs.RowsOf.{HasCell, ReduceByOne, AreRowsOf}
use Rattle.lrrows.specs.StateRows.{action_row, goto_row, complete_items, first_at, least_reductions, reduce_reduce_at, shift_reduce_at}
use Rattle.lrrows.specs.StoredActions.{action_number, action_numbered}
use Rattle.lrgrammar.specs.StoredGrammar.{numbers_of}
use Rattle.lrrows.specs.StoredLists.{stored_reduce_reduces, stored_shift_reduces}
use Rattle.lrrows.proofs.KeptNumbers.{numbered_action}
use Rattle.lrrows.proofs.LeastReductions.{least_is}
use Rattle.lrrows.proofs.ReduceReduceOfState.{reduce_reduce_is}

-- a matrix has this row more
pub record IsRowMore (old new : MatrixBuilder) (row : List ℕ) : Type 0 where
  pub built : IsBuilt new
  pub cols : (so_far new).cols ≡ (so_far old).cols
  pub cells : (so_far new).cells ≡ (so_far old).cells ++ row

-- where 0 stands in most cells of the matrix, that row is the one with these entries
pub row_more :
    (old new : MatrixBuilder) (n : ℕ) (es fs : List (ℕ × ℕ)) (row : List ℕ) → IsBuilt new → (so_far new).cols ≡ (so_far old).cols
    → (so_far new).cells ≡ (so_far old).cells ++ row_with (empty_of old) (so_far old).cols es
    → es ≡ fs → empty_of old ≡ 0 → (so_far old).cols ≡ n → row_with 0 n fs ≡ row → IsRowMore old new row
row_more old new n es fs row built cols added slice zero wide made = record {
  built = built;
  cols = cols;
  cells = added
      ∙ ap (λ xs. (so_far old).cells ++ xs)
      (ap (row_with (empty_of old) (so_far old).cols) slice
      ∙ (ap (λ z. row_with z (so_far old).cols fs) zero ∙ (ap (λ k. row_with 0 k fs) wide ∙ made)));
}

-- what one more number gives is added to what the numbers gave
flat_more :
    {X : Type 0} (f : ℕ → List X) (n : ℕ) (xs ys : List X) → xs ≡ flat_map f (range_with_len 0 n) → ys ≡ xs ++ f n
    → ys ≡ flat_map f (range_with_len 0 (n + 1))
flat_more f n xs ys old new =
    let last : 0 + n ≡ n = omega arith in
    new ∙ ap (λ z. z ++ f n) old ∙ flat_map_more f [] (range_with_len 0 n) n
    ∙ ap (flat_map f) (sym (rw (add-one, range_more 0 n, last) refl))

-- what holds of each element and of the new one
pushed_each :
    {X : Type 0} (P : ℕ → X → Type 0) (xs : List X) (x : X) (n : ℕ) → length xs ≡ n
    → ((s : ℕ) (d : X) → s < n → P s (get_or xs s d)) → P n x
    → (s : ℕ) (d : X) → s < n + 1 → P s (get_or (xs ++ x ∷ []) s d)
pushed_each P xs x n e old new s d l =
    ⊎_elim
    (λ (i : s ≡ n). let at = get_or_push xs x d s (e ∙ sym i) in rw (at, i) new)
    (λ (i : s ≢ n). let m : s < length xs = omega arith in let at = get_or_append_left xs (x ∷ []) d s m in rw at (old s d (omega arith)))
    (cases_eq s n)

-- the actions that the numbers of a row keep
numbered_row : (f : ℕ → Action) (ts : List ℕ) → map action_numbered (map (λ t. action_number (f t)) ts) ≡ map f ts
numbered_row f [] = refl
numbered_row f (t ∷ ts) = rw (numbered_action (f t), numbered_row f ts) refl

module _ (g : Grammar) (h : Graph) (s : ℕ) where
  abbrev cells : List Action
  cells = map (λ t. cell_of g h s t) (range_with_len 0 (token_count g))

  pub cells_are : map action_numbered (action_row g h s) ≡ cells
  cells_are = numbered_row (λ t. cell_of g h s t) (range_with_len 0 (token_count g))

  cell_at : (t : ℕ) (d : Action) → t < token_count g → get_or cells t d ≡ cell_of g h s t
  cell_at t d l = get_or-map-range_with_len (λ t. cell_of g h s t) 0 (token_count g) t t d l (omega arith)

  cells_len : length cells ≡ token_count g
  cells_len = length-map-range_with_len (λ t. cell_of g h s t) 0 (token_count g)

  has_cell : (a : Action) → Contains cells a ↔ HasCell g h s a
  has_cell a = (
    λ (k, l, e). let m : k < token_count g = omega (arith, l, cells_len) in (k, m, sym (cell_at k a m) ∙ e),
    λ (t, l, e). (t, omega (arith, l, cells_len), cell_at t a l ∙ e),
  )

  -- the productions by which the row reduces are those of the state's cells
  pub reduced_cells : (ps : List ℕ) → AreAllWith (λ p. Contains cells (Reduce p)) ps → AreAllWith (λ p. HasCell g h s (Reduce p)) ps
  reduced_cells ps w =
      record {
        upwards = w.upwards;
        members = λ p. (λ i. (has_cell (Reduce p)).0 ((w.members p).0 i), λ i. (w.members p).1 ((has_cell (Reduce p)).1 i));
      }

  -- the row reduces by one production exactly if the state's cells do
  pub one_cell : ReducesByOne cells ↔ ReduceByOne g h s
  one_cell = (
    λ (p, c, a). (p, (has_cell (Reduce p)).0 c, λ t l. rw (cell_at t Error l) at (a t Error (omega (arith, l, cells_len)))),
    λ (p, c, a). (
      p,
      (has_cell (Reduce p)).1 c,
      λ k d l. let m : k < token_count g = omega (arith, l, cells_len) in rw (cell_at k d m) (a k m),
    ),
  )

-- the least production on each token, by the complete items of the closed state
pub least_listed :
    (g : Grammar) (h : Graph) (s : ℕ) (a : Items) (cs : List (ℕ × List Bool)) (ls : List (Option ℕ))
    → AreUpwards (closed_of h s) → Fits g (closed_of h s) → a ≡ closed_of h s → cs ≡ complete_items g a
    → ls ≡ map (first_at cs) (range_with_len 0 (token_count g)) → ls ≡ least_reductions g (closed_of h s)
least_listed g h s a cs ls upwards fits closed items listed =
    listed ∙ ap (λ z. map (first_at z) (range_with_len 0 (token_count g))) (items ∙ ap (complete_items g) closed)
    ∙ least_is g (closed_of h s) upwards fits

-- the reduce/reduce conflicts of the state, by what is listed of its closed state
pub reduce_reduce_listed :
    (g : Grammar) (h : Graph) (s : ℕ) (a : Items) (cs : List (ℕ × List Bool)) (ls : List (Option ℕ))
    → AreUpwards (closed_of h s) → Fits g (closed_of h s) → a ≡ closed_of h s → cs ≡ complete_items g a
    → ls ≡ least_reductions g (closed_of h s) → reduce_reduce_by ls s cs ≡ reduce_reduce_at g h s
reduce_reduce_listed g h s a cs ls upwards fits closed items least =
    ap (λ z. reduce_reduce_by ls s z) (items ∙ ap (complete_items g) closed)
    ∙ ap (λ z. reduce_reduce_by z s (complete_items g (closed_of h s))) least ∙ reduce_reduce_is g h s upwards fits

-- there is one for each number, where they are read from a list of so many
pub listed_len :
    {X Y : Type 0} (v : X → Y) (f : ℕ → Y) (n : ℕ) (xs : List X) → map v xs ≡ map f (range_with_len 0 n) → length xs ≡ n
listed_len v f n xs e = sym (length-map xs v) ∙ ap length e ∙ length-map-range_with_len f 0 n

module _ {T : Type 0} (number : T → ℕ) (g : Grammar) (h : Graph) where
  -- the rows of one state more, by what is added for it
  pub next_rows :
      (n : ℕ) (old new : Rows T) (ps : Vec (PIdx T) Global) (b : Bool)
      → AreRowsOf number g h n old
      → IsRowMore old.actions new.actions (action_row g h n)
      → IsRowMore old.gotos new.gotos (goto_row g h n)
      → new.core_reduces.items ≡ old.core_reduces.items ++ ps ∷ []
      → AreAllWith (λ p. Contains (map action_numbered (action_row g h n)) (Reduce p)) (numbers_of number ps.items)
      → new.reduce_only.items ≡ old.reduce_only.items ++ b ∷ []
      → IsTrue b ↔ ReducesByOne (map action_numbered (action_row g h n))
      → stored_reduce_reduces number new.reduce_reduce.items ≡ stored_reduce_reduces number old.reduce_reduce.items ++ reduce_reduce_at g h n
      → stored_shift_reduces number new.shift_reduce.items ≡ stored_shift_reduces number old.shift_reduce.items ++ shift_reduce_at g h n
      → AreRowsOf number g h (n + 1) new
  next_rows n old new ps b rows actions gotos core reduced only alone pairs mixes =
      let cell = cells_are g h n in
      let one : IsTrue b ↔ ReduceByOne g h n = (λ e. (one_cell g h n).0 (rw cell at (alone.0 e)), λ r. alone.1 (rw cell ((one_cell g h n).1 r))) in
      record {
        built_actions = actions.built;
        tokens = actions.cols ∙ rows.tokens;
        actions = flat_more (action_row g h) n (so_far old.actions).cells (so_far new.actions).cells rows.actions actions.cells;
        built_gotos = gotos.built;
        rules = gotos.cols ∙ rows.rules;
        gotos = flat_more (goto_row g h) n (so_far old.gotos).cells (so_far new.gotos).cells rows.gotos gotos.cells;
        count = ap length core ∙ length_push old.core_reduces.items ps ∙ ap (λ k. k + 1) rows.count;
        reduces =
            rw core
            (pushed_each (λ s (v : Vec (PIdx T) Global). AreAllWith (λ p. HasCell g h s (Reduce p)) (numbers_of number v.items)) old.core_reduces.items ps n
            rows.count rows.reduces (reduced_cells g h n (numbers_of number ps.items) (rw cell at reduced)));
        counted = ap length only ∙ length_push old.reduce_only.items b ∙ ap (λ k. k + 1) rows.counted;
        only = rw only (pushed_each (λ s (c : Bool). IsTrue c ↔ ReduceByOne g h s) old.reduce_only.items b n rows.counted rows.only one);
        reduce_reduce = flat_more (reduce_reduce_at g h) n (stored_reduce_reduces number old.reduce_reduce.items) (stored_reduce_reduces number new.reduce_reduce.items) rows.reduce_reduce pairs;
        shift_reduce = flat_more (shift_reduce_at g h) n (stored_shift_reduces number old.shift_reduce.items) (stored_shift_reduces number new.shift_reduce.items) rows.shift_reduce mixes;
      }
