-- moves with the moves of texts in the places of their shifts
use Rattle.std.proofs.Common.{◌≡◌, ℕ, ◌+◌, ◌<◌, ◌≤◌, List, [], ◌∷◌, ◌++◌, length, map, take, get_or, sym, ap, ◌∙◌, arith}
use Rattle.std.specs.List.{AllZip}
use Rattle.std.proofs.lemmas.List.{take_more, take_all, map-append, length-map}
use Rattle.std.proofs.lemmas.Slice.Zip.{all_zipped_more}
use Rattle.std.proofs.Math.ListN.{get_or-map}
use Rattle.lrgrammar.specs.declared.idx.PIdx.{PIdx}
use Rattle.lrgrammar.specs.declared.idx.Symbol.{Symbol}
use Rattle.lrgrammar.specs.Symbols.{symbol_of, number_of}
use Rattle.lrspec.specs.grammars.Grammar.{Grammar}
use Rattle.lrtable.specs.RunAnswers.{text_of}
use Rattle.lrconflicts.specs.declared.moves.Move as stored
use Rattle.lrconflicts.specs.declared.moves.Move.TheVariants as code
use Rattle.lrconflicts.specs.declared.moves.Written.{Written}
use Rattle.lrconflicts.specs.Moves.{Move, Shift, Reduce}
use Rattle.lrconflicts.specs.StoredMoves.{move_of, moves_stored}
use Rattle.lrambiguity.specs.Inputs.{IsReadAs}
use Rattle.lrambiguity.specs.Parts as part
use Rattle.lrambiguity.specs.Parts.{Derives, IsFilled}
use Rattle.lrreasons.specs.declared.parts.Filling.{Filling}
use Rattle.lrreasons.specs.Parts.{moves_of_all, HasFilled, FillsOn}

-- the moves of a text
abbrev moves_of_text : Written ℕ → List Move
moves_of_text t = moves_stored number_of t.moves.items

-- one element more of a list, by what each is
mapped_more :
    {X Y : Type 0} (f : X → Y) (xs : List X) (i : ℕ) (none : X) → i < length xs → map f (take (i + 1) xs) ≡ map f (take i xs) ++ f (get_or xs i none) ∷ []
mapped_more f xs i none l = ap (map f) (take_more xs i none l) ∙ map-append f (take i xs) (get_or xs i none ∷ [])

module _ (texts : List (Written ℕ)) where
  -- a reduction stays
  pub reduction_fills :
      (old new : Filling) (p : PIdx ℕ) → new.used ≡ old.used → new.moves.items ≡ old.moves.items ++ code.Reduce p ∷ [] → FillsOn texts (Reduce p.0) old new
  reduction_fills old new p used items = λ ms a.
      let moves : moves_stored number_of new.moves.items ≡ moves_stored number_of old.moves.items ++ Reduce p.0 ∷ [] =
      ap (moves_stored number_of) items ∙ map-append (move_of number_of) old.moves.items (code.Reduce p ∷ []) in
      rw (used, moves) (part.IsFilled.reduce p.0 a)

  -- and the next text comes in the place of a shift
  pub text_fills :
      (old new : Filling) (x : Written ℕ) → old.used < length texts → x ≡ get_or texts old.used x → new.used ≡ old.used + 1
      → new.moves.items ≡ old.moves.items ++ x.moves.items → FillsOn texts Shift old new
  text_fills old new x l is used items = λ ms a.
      let all = moves_of_all texts in
      let one = moves_of_text x in
      let there : old.used < length all = omega (arith, l, length-map texts moves_of_text) in
      let read : get_or all old.used one ≡ one = get_or-map moves_of_text texts old.used x ∙ ap moves_of_text (sym is) in
      let taken : take new.used all ≡ take old.used all ++ one ∷ [] =
      ap (λ n. take n all) used ∙ (take_more all old.used one there ∙ ap (λ y. take old.used all ++ y ∷ []) read) in
      let moves : moves_stored number_of new.moves.items ≡ moves_stored number_of old.moves.items ++ one =
      ap (moves_stored number_of) items ∙ map-append (move_of number_of) old.moves.items x.moves.items in
      rw (taken, moves) (part.IsFilled.shift one a)

  -- one move more
  pub filled_more :
      (moves : List (stored.Move ℕ)) (i : ℕ) (none : stored.Move ℕ) (old new : Filling) → i < length moves
      → HasFilled texts (moves_stored number_of (take i moves)) old → FillsOn texts (move_of number_of (get_or moves i none)) old new
      → HasFilled texts (moves_stored number_of (take (i + 1) moves)) new
  filled_more moves i none old new l a on =
      rw (mapped_more (move_of number_of) moves i none l) (on (moves_stored number_of (take i moves)) a)

  -- all moves, where all texts are used
  pub all_filled :
      (moves : List (stored.Move ℕ)) (i : ℕ) (f : Filling) → length moves ≤ i → f.used ≡ length texts → HasFilled texts (moves_stored number_of (take i moves)) f
      → IsFilled (moves_of_all texts) (moves_stored number_of moves) (moves_stored number_of f.moves.items)
  all_filled moves i f l all a =
      let whole : take f.used (moves_of_all texts) ≡ moves_of_all texts = take_all f.used (moves_of_all texts) (omega (arith, all, length-map texts moves_of_text)) in
      rw (take_all i moves l, whole) at a

-- one symbol more derives its text
pub derived_more :
    (g : Grammar) (symbols : List (Symbol ℕ)) (texts : List (Written ℕ)) (i : ℕ) (x : Symbol ℕ) (t : Written ℕ) → i < length symbols → x ≡ get_or symbols i x
    → i < length texts → t ≡ get_or texts i t → IsReadAs g (symbol_of number_of x ∷ []) (text_of number_of t.tokens.items) (moves_of_text t)
    → AllZip (Derives g) (map (symbol_of number_of) (take i symbols)) (moves_of_all (take i texts))
    → AllZip (Derives g) (map (symbol_of number_of) (take (i + 1) symbols)) (moves_of_all (take (i + 1) texts))
derived_more g symbols texts i x t l is k at reads so =
    rw (mapped_more (symbol_of number_of) symbols i x l, mapped_more moves_of_text texts i t k, ← is, ← at)
    (all_zipped_more (Derives g) (map (symbol_of number_of) (take i symbols)) (moves_of_all (take i texts)) (symbol_of number_of x) (moves_of_text t) so
    (text_of number_of t.tokens.items, reads))
