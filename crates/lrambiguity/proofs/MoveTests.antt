-- what tests of moves tell
use Rattle.std.proofs.Common.{◌≡◌, ℕ, Bool, true, false, List, [], ◌∷◌, refl, sym, ap, ◌∙◌, Option, None, Some}
use Rattle.std.specs.Prelude.{IsTrue, ◌↔◌, slice_get}
use Rattle.std.specs.Option.{option_eq}
use Rattle.lrgrammar.specs.declared.idx.PIdx.{PIdx}
use Rattle.lrconflicts.specs.declared.moves.Move as stored
use Rattle.lrconflicts.specs.declared.moves.Move.TheVariants as code
use Rattle.lrconflicts.specs.Moves.{Move, Reduce}
use Rattle.lrconflicts.specs.StoredMoves.{move_of, moves_stored}

-- moves are tested by kinds, and then by their numbers
pub record Tests {T : Type 0} (test : T → T → Bool) (both : stored.Move T → stored.Move T → Bool) : Type 0 where
  pub shift_reduce : (q : PIdx T) → both code.Shift (code.Reduce q) ≡ false
  pub reduce_shift : (p : PIdx T) → both (code.Reduce p) code.Shift ≡ false
  pub reduces : (p q : PIdx T) → both (code.Reduce p) (code.Reduce q) ≡ test p.0 q.0

module _ {T : Type 0} (number : T → ℕ) (test : T → T → Bool) (same : (x y : T) → IsTrue (test x y) ↔ (number x ≡ number y)) (both : stored.Move T → stored.Move T → Bool) (tests : Tests test both) where
  -- moves that are tested to be equal are
  moves_equal : (m n : stored.Move T) → true ≡ both m n → move_of number m ≡ move_of number n
  moves_equal code.Shift code.Shift e = refl
  moves_equal code.Shift (code.Reduce q) e = let no : true ≡ false = e ∙ tests.shift_reduce q in cc
  moves_equal (code.Reduce p) code.Shift e = let no : true ≡ false = e ∙ tests.reduce_shift p in cc
  moves_equal (code.Reduce p) (code.Reduce q) e = ap Reduce ((same p.0 q.0).0 (sym (e ∙ tests.reduces p q)))

  -- so the first is one that it is tested to be
  pub first_is :
      (ms : List (stored.Move T)) (o : Option (stored.Move T)) (first : stored.Move T) → o ≡ slice_get ms 0 → true ≡ option_eq both o (Some first)
      → (rest : List Move) × (moves_stored number ms ≡ move_of number first ∷ rest)
  first_is [] None first is e = absurd (cc)
  first_is [] (Some m) first is e = absurd (cc)
  first_is (n ∷ ms) None first is e = absurd (cc)
  first_is (n ∷ ms) (Some m) first is e =
      let one : m ≡ n = cc in
      (moves_stored number ms, ap (λ x. x ∷ moves_stored number ms) (ap (move_of number) (sym one) ∙ moves_equal m first e))
