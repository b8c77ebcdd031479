-- rows that grow by entries, one column after another
use Rattle.std.proofs.Common.{◌≡◌, ◌≢◌, ℕ, zero, suc, ◌+◌, ◌<◌, ◌≤◌, List, [], ◌∷◌, ◌++◌, length, slice_index, refl, sym, ◌∙◌, inl, inr, arith, eq-eqb, get_or}
use Rattle.std.specs.List.{All}
use Rattle.std.specs.List.Sorted.{IsStrictlyIncreasing}
use Rattle.std.proofs.lemmas.Bool.{cases_lt, cases_eq, ne_eqb}
use Rattle.std.proofs.lemmas.List.{length_push, get_or_push, get_or_append_left, length-map, get_or-map, map-append}
use Rattle.std.proofs.lemmas.List.Elements.{All-head, All-tail, All-push}
use Rattle.std.proofs.lemmas.List.FromFn.{fill_by_all}
use Rattle.lrsparse.specs.Entries.{columns_in, number_in, row_with, AreEntries}

-- columns upwards, and one behind them
upwards_more :
    (columns : List ℕ) (column : ℕ) → IsStrictlyIncreasing columns → ((k : ℕ) → k < length columns → slice_index columns k < column)
    → IsStrictlyIncreasing (columns ++ column ∷ [])
upwards_more columns column up below k l = elim (cases_lt (k + 1) (length columns)) [
  | inl h ↦
      let first : k < length columns = omega arith in
      rw (get_or_append_left columns (column ∷ []) 0 k first, get_or_append_left columns (column ∷ []) 0 (k + 1) h) (up k h)
  | inr h ↦
      let first : k < length columns = omega (arith, length_push columns column) in
      rw (get_or_append_left columns (column ∷ []) 0 k first, get_or_push columns column 0 (k + 1) (omega (arith, length_push columns column))) (below k first)
]

-- one entry more changes no other column
number_kept :
    (empty : ℕ) (es : List (ℕ × ℕ)) (i n c : ℕ) → i ≢ c → number_in empty (es ++ (i, n) ∷ []) c ≡ number_in empty es c
number_kept empty [] i n c apart = rw (ne_eqb i c apart) refl
number_kept empty (e ∷ es) i n c apart = rw (number_kept empty es i n c apart) refl

-- and it gives its column its number
number_pushed :
    (empty : ℕ) (es : List (ℕ × ℕ)) (i n : ℕ) → All (λ e. e.0 < i) es → number_in empty (es ++ (i, n) ∷ []) i ≡ n
number_pushed empty [] i n below = rw (eq-eqb i i refl) refl
number_pushed empty (e ∷ es) i n below =
    let first : e.0 < i = All-head (λ e. e.0 < i) e es below in
    let apart : e.0 ≢ i = omega arith in
    rw (ne_eqb e.0 i apart) (number_pushed empty es i n (All-tail (λ e. e.0 < i) e es below))

-- a column behind those of the entries has the empty number
none_in : (empty : ℕ) (es : List (ℕ × ℕ)) (i : ℕ) → All (λ e. e.0 < i) es → number_in empty es i ≡ empty
none_in empty [] i below = refl
none_in empty (e ∷ es) i below =
    let first : e.0 < i = All-head (λ e. e.0 < i) e es below in
    let apart : e.0 ≢ i = omega arith in
    rw (ne_eqb e.0 i apart) (none_in empty es i (All-tail (λ e. e.0 < i) e es below))

below_next : (es : List (ℕ × ℕ)) (i : ℕ) → All (λ e. e.0 < i) es → All (λ e. e.0 < i + 1) es
below_next es i below k d l = let h = below k d l in omega arith

-- these are the entries in the columns below this one, of a row that has the number `f c` in each column `c`
pub record IsRowSoFar (empty : ℕ) (f : ℕ → ℕ) (column : ℕ) (entries : List (ℕ × ℕ)) : Type 0 where
  pub are : AreEntries empty column entries
  pub numbers : (c : ℕ) → c < column → number_in empty entries c ≡ f c

module _ (empty : ℕ) (f : ℕ → ℕ) where
  -- a column with the empty number may have no entry
  pub column_passed : (i : ℕ) (es : List (ℕ × ℕ)) → f i ≡ empty → IsRowSoFar empty f i es → IsRowSoFar empty f (i + 1) es
  column_passed i es none row = record {
    are = record { upwards = row.are.upwards; within = below_next es i row.are.within; some = row.are.some };
    numbers = λ c l. elim (cases_eq c i) [
      | inl e ↦ rw e (none_in empty es i row.are.within ∙ sym none)
      | inr n ↦ row.numbers c (omega arith)
    ];
  }

  -- or one with its number
  pub column_more : (i n : ℕ) (es : List (ℕ × ℕ)) → n ≢ empty → n ≡ f i → IsRowSoFar empty f i es → IsRowSoFar empty f (i + 1) (es ++ (i, n) ∷ [])
  column_more i n es some is row = record {
    are = record {
      upwards =
          rw (map-append (λ e. e.0) es ((i, n) ∷ []))
          (upwards_more (columns_in es) i row.are.upwards
          (λ k l. let m : k < length es = omega (arith, length-map es (λ e. e.0)) in rw (get_or-map (λ e. e.0) es k (0, 0) 0 m) (row.are.within k (0, 0) m)));
      within = All-push (λ e. e.0 < i + 1) es (i, n) (below_next es i row.are.within) (omega arith);
      some = All-push (λ e. e.1 ≢ empty) es (i, n) row.are.some some;
    };
    numbers = λ c l. elim (cases_eq c i) [
      | inl e ↦ rw e (number_pushed empty es i n row.are.within ∙ is)
      | inr m ↦ number_kept empty es i n c (λ e. m (sym e)) ∙ row.numbers c (omega arith)
    ];
  }

  -- so may the columns up to another one, where each of them has it
  pub columns_passed :
      (k i n : ℕ) (es : List (ℕ × ℕ)) → i + k ≡ n → ((c : ℕ) → i ≤ c → c < n → f c ≡ empty) → IsRowSoFar empty f i es
      → IsRowSoFar empty f n es
  columns_passed zero i n es e none row = let same : n ≡ i = omega (arith, e) in rw same row
  columns_passed (suc k) i n es e none row =
      columns_passed k (i + 1) n es (omega (arith, e)) (λ c l m. none c (omega (arith, l)) m)
      (column_passed i es (none i (omega arith) (omega (arith, e))) row)

  -- behind the last column the row has its numbers
  pub row_ended :
      (numbers : List ℕ) (n : ℕ) (es : List (ℕ × ℕ)) → length numbers ≡ n → ((c : ℕ) → c < n → get_or numbers c empty ≡ f c)
      → IsRowSoFar empty f n es → row_with empty n es ≡ numbers
  row_ended numbers n es many each row =
      sym (fill_by_all (number_in empty es) numbers n empty many (λ c l. each c l ∙ sym (row.numbers c l)))
