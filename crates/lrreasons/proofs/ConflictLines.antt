-- the lines of conflicts, piece by piece
use Rattle.std.proofs.Common.{◌≡◌, ℕ, List, ◌++◌, append_assoc, ◌∙◌, Option, None, Some, Result, Ok, Err}
use Rattle.std.specs.Prelude.{IfOk, codes}
use Rattle.std.specs.Fmt.{decimal}
use Rattle.lrspec.specs.grammars.Grammar.{Grammar}
use Rattle.lrspec.specs.texts.PrintedTexts.{token_name, production_text}
use Rattle.lrconflicts.specs.Entries.{entry_by}
use Rattle.lrreasons.specs.Texts.{conflict_line}

-- pieces from the left, or from the right
seven_pieces : (a b c d e f k : List ℕ) → a ++ (b ++ (c ++ (d ++ (e ++ (f ++ k))))) ≡ a ++ b ++ c ++ d ++ e ++ f ++ k
seven_pieces a b c d e f k = simp append_assoc

nine_pieces : (a b c d e f k m n : List ℕ) → a ++ (b ++ (c ++ (d ++ (e ++ (f ++ (k ++ (m ++ n))))))) ≡ a ++ b ++ c ++ d ++ e ++ f ++ k ++ m ++ n
nine_pieces a b c d e f k m n = simp append_assoc

module _ {X E : Type 0} (bytes : X → List ℕ) (g : Grammar) (t p s : ℕ) (o : Option ℕ) (state : ℕ) (token reduced : List ℕ) where
  -- of a shift/reduce conflict
  pub shift_line :
      (r : Result X E) → o ≡ None → state ≡ s → token ≡ token_name g t → reduced ≡ production_text g p
      → IfOk r (λ x. bytes x ≡ codes "   State " ++ (decimal state ++ (codes ": Shift(\"" ++ (token ++ (codes "\") / Reduce(" ++ (reduced ++ codes ")\n"))))))
      → IfOk r (λ x. bytes x ≡ conflict_line g (entry_by t p s o))
  shift_line (Ok x) none a b c text =
      rw (none, ← a, ← b, ← c) (text ∙ seven_pieces (codes "   State ") (decimal state) (codes ": Shift(\"") token (codes "\") / Reduce(") reduced (codes ")\n"))
  shift_line (Err x) none a b c text = tt

  -- and of a reduce/reduce conflict
  pub reduce_line :
      (r : Result X E) (q : ℕ) (other : List ℕ) → o ≡ Some q → state ≡ s → token ≡ token_name g t → reduced ≡ production_text g p → other ≡ production_text g q
      → IfOk r (λ x. bytes x
      ≡ codes "   State " ++ (decimal state ++ (codes " (lookahead " ++ (token ++ (codes "): Reduce(" ++ (reduced ++ (codes ") / Reduce(" ++ (other ++ codes ")\n"))))))))
      → IfOk r (λ x. bytes x ≡ conflict_line g (entry_by t p s o))
  reduce_line (Ok x) q other some a b c d text =
      rw (some, ← a, ← b, ← c, ← d)
      (text ∙ nine_pieces (codes "   State ") (decimal state) (codes " (lookahead ") token (codes "): Reduce(") reduced (codes ") / Reduce(") other (codes ")\n"))
  reduce_line (Err x) q other some a b c d text = tt
