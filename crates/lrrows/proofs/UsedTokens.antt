-- the tokens that a state uses, one after another, and the row that the cells on them make
use Rattle.std.proofs.Common.{◌≡◌, ◌≢◌, ℕ, suc, ◌+◌, ◌-◌, ◌<◌, ◌≤◌, Bool, true, false, List, [], ◌∷◌, ◌++◌, Option, None, Some, length, map, get_or, take, refl, sym, ap, ◌∙◌, inl, inr, arith}
use Rattle.std.specs.Prelude.{◌||◌, is_some}
use Rattle.std.specs.List.{range_with_len}
use Rattle.std.proofs.Math.Seq.{take-length}
use Rattle.std.proofs.lemmas.Bool.{cases_lt}
use Rattle.std.proofs.lemmas.List.FromFn.{get_or-map-range_with_len}
use Rattle.lrsparse.proofs.RowSoFar.{IsRowSoFar, column_passed, column_more, columns_passed}
use Rattle.lrspec.specs.grammars.Grammar.{Grammar, Token}
use Rattle.lrspec.specs.merging.Graph.{Graph, closed_of, edge}
use Rattle.lrspec.specs.tables.Table.{Error, accepts_at, cell_by, cell_of, reductions}
use Rattle.lrgrammar.specs.Bits.{places, set_places}
use Rattle.lrrows.specs.StateRows.{first_of}

-- the columns from one on up to the last have 0 but for those that are listed, which come upwards
abbrev pub AreLeft : (ℕ → ℕ) → ℕ → ℕ → List ℕ → Type 0
AreLeft f n i [] = (i ≤ n) × ((c : ℕ) → i ≤ c → c < n → f c ≡ 0)
AreLeft f n i (x ∷ xs) = (i ≤ x) × (x < n) × ((c : ℕ) → i ≤ c → c < x → f c ≡ 0) × AreLeft f n (x + 1) xs

-- where 0 stands in each column without a set bit, the places of the set bits are left
left_at :
    (f : ℕ → ℕ) (v : List Bool) (i a n : ℕ) → a + length v ≡ n → i ≤ a → ((c : ℕ) → i ≤ c → c < a → f c ≡ 0)
    → ((k : ℕ) → k < length v → get_or v k false ≡ false → f (a + k) ≡ 0) → AreLeft f n i (places a v)
left_at f [] i a n e l before unset = (omega (arith, e, l), λ c m u. before c m (omega (arith, e, u)))
left_at f (true ∷ v) i a n e l before unset = (
  l,
  omega (arith, e),
  before,
  left_at f v (a + 1) (a + 1) n (omega (arith, e)) (omega arith) (λ c m u. absurd (omega (arith, m, u)))
      (λ k m u. let same : a + 1 + k ≡ a + suc k = omega arith in ap f same ∙ unset (suc k) (omega (arith, m)) u),
)
left_at f (false ∷ v) i a n e l before unset =
    left_at f v i (a + 1) n (omega (arith, e)) (omega (arith, l))
    (λ c m u. elim (cases_lt c a) [
      | inl b ↦ before c m b
      | inr b ↦ let same : c ≡ a + 0 = omega (arith, b, u) in ap f same ∙ unset 0 (omega arith) refl
    ])
    (λ k m u. let same : a + 1 + k ≡ a + suc k = omega arith in ap f same ∙ unset (suc k) (omega (arith, m)) u)

-- before the first turn all of them are left
pub all_left :
    (f : ℕ → ℕ) (v : List Bool) (n : ℕ) → length v ≡ n → ((t : ℕ) → t < n → get_or v t false ≡ false → f t ≡ 0)
    → AreLeft f n 0 (set_places v 0 (length v))
all_left f v n e unset =
    let all : take (length v - 0) v ≡ v = ap (λ k. take k v) (omega arith) ∙ take-length v in
    rw all
    (left_at f v 0 0 n (omega (arith, e)) (omega arith) (λ c m u. absurd (omega (arith, u)))
    (λ k m u. let same : 0 + k ≡ k = omega arith in ap f same ∙ unset k (omega (arith, e, m)) u))

-- these are the entries so far of a row of `n` columns, and what is left
pub record IsRowWithLeft (f : ℕ → ℕ) (n : ℕ) (left : List ℕ) (entries : List (ℕ × ℕ)) : Type 0 where
  pub column : ℕ
  pub so_far : IsRowSoFar 0 f column entries
  pub later : AreLeft f n column left

module _ (f : ℕ → ℕ) (n : ℕ) where
  -- it begins without entries
  pub row_begins : (left : List ℕ) → AreLeft f n 0 left → IsRowWithLeft f n left []
  row_begins left later = record {
    column = 0;
    so_far = record {
      are = record { upwards = λ k l. absurd (omega arith); within = λ k d l. absurd (omega arith); some = λ k d l. absurd (omega arith) };
      numbers = λ c l. absurd (omega arith);
    };
    later = later;
  }

  -- the next one is a column of the row
  pub next_within : (x : ℕ) (left rest : List ℕ) (es : List (ℕ × ℕ)) → left ≡ x ∷ rest → IsRowWithLeft f n left es → x < n
  next_within x left rest es e row = (rw e at row.later).1

  -- the row up to the next one
  upto_next :
      (x : ℕ) (left rest : List ℕ) (es : List (ℕ × ℕ)) → left ≡ x ∷ rest → IsRowWithLeft f n left es
      → IsRowSoFar 0 f x es × AreLeft f n (x + 1) rest
  upto_next x left rest es e row =
      let (above, below, none, later) = rw e at row.later in
      (columns_passed 0 f (x - row.column) row.column x es (omega (arith, above)) none row.so_far, later)

  -- the next one has no entry
  pub left_passed :
      (x : ℕ) (left rest : List ℕ) (es : List (ℕ × ℕ)) → left ≡ x ∷ rest → f x ≡ 0 → IsRowWithLeft f n left es
      → IsRowWithLeft f n rest es
  left_passed x left rest es e none row =
      let upto = upto_next x left rest es e row in
      record { column = x + 1; so_far = column_passed 0 f x es none upto.0; later = upto.1 }

  -- or one with its number
  pub left_more :
      (x k : ℕ) (left rest : List ℕ) (es : List (ℕ × ℕ)) → left ≡ x ∷ rest → k ≢ 0 → k ≡ f x → IsRowWithLeft f n left es
      → IsRowWithLeft f n rest (es ++ (x, k) ∷ [])
  left_more x k left rest es e some is row =
      let upto = upto_next x left rest es e row in
      record { column = x + 1; so_far = column_more 0 f x k es some is upto.0; later = upto.1 }

  -- where none is left the row is whole
  pub left_none : (left : List ℕ) (es : List (ℕ × ℕ)) → left ≡ [] → IsRowWithLeft f n left es → IsRowSoFar 0 f n es
  left_none left es e row =
      let (above, none) = rw e at row.later in
      columns_passed 0 f (n - row.column) row.column n es (omega (arith, above)) none row.so_far

-- a cell on whose token the text doesn't end, by which no item reduces and on which there is no edge is an error
made_of_none :
    (g : Grammar) (t : ℕ) (rs : List ℕ) (e o : Option ℕ) (a : Bool) → ((a || is_some o) || is_some e) ≡ false → o ≡ first_of rs
    → cell_by g t rs e a ≡ Error
made_of_none g t [] None o false none first = refl
made_of_none g t [] None o true none first = absurd cc
made_of_none g t [] (Some u) o false none first = let some = rw first at none in absurd cc
made_of_none g t [] (Some u) o true none first = absurd cc
made_of_none g t (p ∷ ps) e o false none first = let some = rw first at none in absurd cc
made_of_none g t (p ∷ ps) e o true none first = absurd cc

-- and so is the cell of a token without a set bit
pub unused_errs :
    (g : Grammar) (h : Graph) (s t : ℕ) (b a : Bool) (o : Option ℕ) → b ≡ ((a || is_some o) || is_some (edge h s (Token t)))
    → a ≡ accepts_at g (closed_of h s) t → o ≡ first_of (reductions g (closed_of h s) t) → b ≡ false → cell_of g h s t ≡ Error
unused_errs g h s t b a o made accepts first unset =
    rw accepts at (made_of_none g t (reductions g (closed_of h s) t) (edge h s (Token t)) o a (sym made ∙ unset) first)

-- two lists that are one have the same at each token
pub same_at :
    {X : Type 0} (f k : ℕ → X) (n t : ℕ) (xs : List X) → xs ≡ map f (range_with_len 0 n) → xs ≡ map k (range_with_len 0 n) → t < n → f t ≡ k t
same_at f k n t xs a b l =
    sym (get_or-map-range_with_len f 0 n t t (f t) l (omega arith)) ∙ ap (λ ys. get_or ys t (f t)) (sym a ∙ b)
    ∙ get_or-map-range_with_len k 0 n t t (f t) l (omega arith)
