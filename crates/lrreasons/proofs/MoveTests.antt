-- what tests of moves tell
use Rattle.std.proofs.Common.{◌≡◌, ℕ, ◌==◌, Bool, true, false, refl, sym, ap, ◌∙◌}
use Rattle.std.specs.Bool.{Decides}
use Rattle.std.proofs.lemmas.Bool.Decides.{Decides-eqb}
use Rattle.lrgrammar.specs.declared.idx.PIdx.{PIdx}
use Rattle.lrconflicts.specs.declared.moves.Move.{Move}
use Rattle.lrconflicts.specs.declared.moves.Move.TheVariants as code

-- moves are tested by kinds, and then by their numbers
pub record Tests (both : Move ℕ → Move ℕ → Bool) : Type 0 where
  pub shifts : both code.Shift code.Shift ≡ true
  pub shift_reduce : (q : PIdx ℕ) → both code.Shift (code.Reduce q) ≡ false
  pub reduce_shift : (p : PIdx ℕ) → both (code.Reduce p) code.Shift ≡ false
  pub reduces : (p q : PIdx ℕ) → both (code.Reduce p) (code.Reduce q) ≡ (p.0 == q.0)

-- the test tells whether two moves are one
pub moves_tested : {both : Move ℕ → Move ℕ → Bool} → Tests both → (m n : Move ℕ) → Decides (both m n) (m ≡ n)
moves_tested tests code.Shift code.Shift = (λ e. refl, λ e. tests.shifts)
moves_tested tests code.Shift (code.Reduce q) = (λ e. let no : false ≡ true = sym (tests.shift_reduce q) ∙ e in cc, λ e. cc)
moves_tested tests (code.Reduce p) code.Shift = (λ e. let no : false ≡ true = sym (tests.reduce_shift p) ∙ e in cc, λ e. cc)
moves_tested tests (code.Reduce p) (code.Reduce q) = (
  λ e. let equal : p.0 ≡ q.0 = (Decides-eqb p.0 q.0).0 (sym (tests.reduces p q) ∙ e) in ap (λ x. code.Reduce (record { 0 = x })) equal,
  λ e. let equal : p ≡ q = cc in tests.reduces p q ∙ (Decides-eqb p.0 q.0).1 (ap (λ (x : PIdx ℕ). x.0) equal),
)
