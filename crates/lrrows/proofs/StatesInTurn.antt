-- the rows of a table made state after state
use Rattle.std.proofs.Common.{◌≡◌, ℕ, zero, suc, ◌+◌, ◌<◌, List, [], ◌∷◌, length, refl, sym, subst, ap, ◌∙◌, arith}
use Rattle.std.specs.List.{range_with_len}
use Rattle.lrspec.specs.grammars.Grammar.{Grammar}
use Rattle.lrspec.specs.merging.Graph.{Graph}
use Rattle.lrrows.specs.RowsOf.{AreRowsOf}
use Rattle.lrrows.specs.declared.rows.Rows.{Rows}

-- the rows are those of the states before the states left
pub record AreRowsBefore {T : Type 0} (number : T → ℕ) (g : Grammar) (h : Graph) (left : List ℕ) (r : Rows T) : Type 0 where
  pub done : ℕ
  pub rest : ℕ
  pub all : done + rest ≡ length h
  pub left_is : left ≡ range_with_len done rest
  pub rows : AreRowsOf number g h done r

first_of_range : (a n x : ℕ) (xs : List ℕ) → range_with_len a n ≡ x ∷ xs → (m : ℕ) × (n ≡ suc m) × (a ≡ x) × (range_with_len (a + 1) m ≡ xs)
first_of_range a zero x xs e = cc
first_of_range a (suc n) x xs e = (n, refl, cc, cc)

none_of_range : (a n : ℕ) → range_with_len a n ≡ [] → n ≡ 0
none_of_range a zero e = refl
none_of_range a (suc n) e = cc

module _ {T : Type 0} (number : T → ℕ) (g : Grammar) (h : Graph) where
  pub before_first : (left : List ℕ) (r : Rows T) → left ≡ range_with_len 0 (length h) → AreRowsOf number g h 0 r → AreRowsBefore number g h left r
  before_first left r e rows = record { done = 0; rest = length h; all = omega arith; left_is = e; rows = rows }

  -- the next state is one of the graph, and the rows are those of the states before it
  pub next_state :
      (left xs : List ℕ) (x : ℕ) (r : Rows T) → left ≡ x ∷ xs → AreRowsBefore number g h left r
      → (x < length h) × AreRowsOf number g h x r
  next_state left xs x r e b =
      let (m, n, y, z) = first_of_range b.done b.rest x xs (sym b.left_is ∙ e) in
      (omega (arith, b.all), subst (λ k. AreRowsOf number g h k r) y b.rows)

  pub before_next :
      (left xs : List ℕ) (x : ℕ) (r q : Rows T) → left ≡ x ∷ xs → AreRowsBefore number g h left r → AreRowsOf number g h (x + 1) q
      → AreRowsBefore number g h xs q
  before_next left xs x r q e b rows =
      let (m, n, y, z) = first_of_range b.done b.rest x xs (sym b.left_is ∙ e) in
      record { done = x + 1; rest = m; all = omega (arith, b.all); left_is = sym z ∙ ap (λ k. range_with_len (k + 1) m) y; rows = rows }

  pub after_last : (left : List ℕ) (r : Rows T) → left ≡ [] → AreRowsBefore number g h left r → AreRowsOf number g h (length h) r
  after_last left r e b =
      let n = none_of_range b.done b.rest (sym b.left_is ∙ e) in
      let l : b.done ≡ length h = omega (arith, b.all) in
      subst (λ k. AreRowsOf number g h k r) l b.rows
