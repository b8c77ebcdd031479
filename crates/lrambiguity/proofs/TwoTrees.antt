-- what two trees of a text tell of a grammar
use Rattle.std.proofs.Common.{◌≡◌, ◌≢◌, ℕ, List, [], ◌∷◌, refl, sym, ap, ◌∙◌, Some}
use Rattle.std.specs.Prelude.{slice_get}
use Rattle.std.proofs.lemmas.List.{append_cancel_left}
use Rattle.lrgrammar.specs.declared.idx.TIdx.{TIdx}
use Rattle.lrspec.specs.grammars.Grammar.{Grammar, IsGrammar}
use Rattle.lrspec.specs.grammars.Trees as math
use Rattle.lrspec.specs.tables.Table.{Table, IsTableFor}
use Rattle.lrspec.specs.tables.Recognition.{IsUnambiguous}
use Rattle.lrspec.specs.tables.LrTables.{HasNoPrecedences, ListsNothing}
use Rattle.lrspec.proofs.tables.ExactWithoutPrecedences.{recognises_without_precedences}
use Rattle.lrtree.specs.declared.trees.Tree.{Tree}
use Rattle.lrtree.specs.StoredTrees.{tree_of}
use Rattle.lrconflicts.specs.declared.moves.Move as stored
use Rattle.lrconflicts.specs.declared.moves.Move.TheVariants as code
use Rattle.lrconflicts.specs.Moves.{Move, moves_of, IsTreeBy, IsTreeOfText}
use Rattle.lrconflicts.specs.StoredMoves.{move_of, moves_stored}
use Rattle.lrambiguity.specs.StoredAmbiguities.{AreTreesBy}

-- a tree that moves put together is one of a sentence
pub tree_of_text : {g : Grammar} {ms : List Move} {text : List ℕ} {t : math.Tree} → IsTreeBy g ms text t → IsTreeOfText g text t
tree_of_text {t = t} a = (record { rule = a.of_start.rule; tree = t; start = a.of_start.start; is_tree = a.of_start.is_tree; leaves_are = a.leaves_are }, refl)

-- with two trees of one text a grammar is ambiguous
pub ambiguous : {g : Grammar} {text : List ℕ} {t u : math.Tree} → IsTreeOfText g text t → IsTreeOfText g text u → t ≢ u → ¬ (IsUnambiguous g)
ambiguous {text = text} (s, is) (v, are) differ = λ one. differ (sym is ∙ one text s v ∙ are)

-- without precedences each table of an ambiguous grammar lists conflicts
pub lists_conflicts : {g : Grammar} → IsGrammar g → ¬ (IsUnambiguous g) → HasNoPrecedences g → (b : Table) → IsTableFor g b → ¬ (ListsNothing b)
lists_conflicts {g} m two plain b k = λ none. two (recognises_without_precedences g k.graph m k.graph_of plain b k.table_of none).one_tree

module _ {T : Type 0} (number : T → ℕ) (injective : (x y : T) → number x ≡ number y → x ≡ y) where
  -- a move is known by its number
  same_move : (m n : stored.Move T) → move_of number m ≡ move_of number n → m ≡ n
  same_move code.Shift code.Shift e = refl
  same_move code.Shift (code.Reduce q) e = absurd (cc)
  same_move (code.Reduce p) code.Shift e = absurd (cc)
  same_move (code.Reduce p) (code.Reduce q) e = let same : number p.0 ≡ number q.0 = cc in ap (λ x. code.Reduce (record { 0 = x })) (injective p.0 q.0 same)

  -- equal moves begin with the same move
  same_first : (ms ns : List (stored.Move T)) → moves_stored number ms ≡ moves_stored number ns → slice_get ms 0 ≡ slice_get ns 0
  same_first [] [] e = refl
  same_first [] (n ∷ ns) e = absurd (cc)
  same_first (m ∷ ms) [] e = absurd (cc)
  same_first (m ∷ ms) (n ∷ ns) e = let same : move_of number m ≡ move_of number n = cc in ap Some (same_move m n same)

  -- trees whose moves part differ
  pub trees_differ :
      (g : Grammar) (text : List (TIdx T)) (before one other : List (stored.Move T)) (t u : Tree T) → AreTreesBy number g text before one other t u
      → tree_of number t ≢ tree_of number u
  trees_differ g text before one other t u a = λ same.
      a.part (same_first one other
      (append_cancel_left (moves_stored number before) (moves_stored number one) (moves_stored number other) (sym a.first.moves_are ∙ ap moves_of same ∙ a.second.moves_are)))
