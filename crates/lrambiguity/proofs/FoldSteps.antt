-- moves that fold symbols onto a stack: what each makes, and that no other way is left
use Rattle.std.proofs.Common.{◌≡◌, ℕ, ◌+◌, ◌<◌, ◌≤◌, List, [], ◌∷◌, ◌++◌, length, map, take, drop, get_or, refl, sym, ap, ◌∙◌, append_assoc, append-nil, arith}
use Rattle.std.proofs.lemmas.List.{take_more, drop_more, drop_all, take_all, map-append, length-map, length-drop, append_cancel_right}
use Rattle.std.proofs.Math.ListN.{get_or-map}
use Rattle.lrgrammar.specs.declared.idx.Symbol as stored
use Rattle.lrgrammar.specs.declared.idx.Symbol.TheVariants as code
use Rattle.lrgrammar.specs.declared.idx.RIdx.{RIdx}
use Rattle.lrgrammar.specs.Symbols.{symbol_of}
use Rattle.lrspec.specs.grammars.Grammar.{Symbol, Rule, Grammar, body_of, IsProductionOf}
use Rattle.lrspec.proofs.grammars.BodyFacts.{rule_unique, below_of_production}
use Rattle.lrconflicts.specs.declared.moves.Move as stored-move
use Rattle.lrambiguity.specs.declared.derivations.Fold.{Fold}
use Rattle.lrconflicts.specs.Moves.{Move, Shift, Reduce}
use Rattle.lrambiguity.specs.Derivations as fold
use Rattle.lrambiguity.specs.Derivations.{Folds, IsDerivedBy}
use Rattle.lrambiguity.specs.StoredFolds.{stack_of, left_of, HasFolded, Finishes, FoldsOn, CannotFold}
use Rattle.lrconflicts.specs.StoredMoves.{move_of, moves_stored}

-- moves that go on where others have come to finish it from the beginning on
pub finishes_whole :
    {g : Grammar} {ms : List Move} {read stack : List Symbol} → Folds g ms read stack → (goal : List Symbol) (ns : List Move) (left : List Symbol)
    → Finishes g goal ns stack left → Finishes g goal (ms ++ ns) [] (read ++ left)
finishes_whole fold.Folds.nothing goal ns left f = f
finishes_whole (fold.Folds.shift {ms = ms} {read = read} {stack = stack} x a) goal ns left f =
    rw (append_assoc ms (Shift ∷ []) ns, append_assoc read (x ∷ []) left) (finishes_whole a goal (Shift ∷ ns) (x ∷ left) (x, left, refl, f))
finishes_whole (fold.Folds.reduce {ms = ms} stack p r a i) goal ns left f =
    rw (append_assoc ms (Reduce p ∷ []) ns) (finishes_whole a goal (Reduce p ∷ ns) left (stack, r, refl, i, f))

-- so moves that derive symbols of a rule finish it from the empty stack on
pub finishes_derived : {g : Grammar} {r : ℕ} {symbols : List Symbol} {ms : List Move} → IsDerivedBy g r symbols ms → Finishes g (Rule r ∷ []) ms [] symbols
finishes_derived {g} {r} {symbols} {ms} a =
    let whole : Finishes g (Rule r ∷ []) (ms ++ []) [] (symbols ++ []) = finishes_whole a (Rule r ∷ []) [] [] (refl, refl) in
    rw (append-nil ms, append-nil symbols) at whole

module _ {T : Type 0} (number : T → ℕ) (g : Grammar) (symbols : List (stored.Symbol T)) where
  -- a shift of the next symbol
  pub shift_folds :
      (old new : Fold T) (x : stored.Symbol T) → old.used < length symbols → x ≡ get_or symbols old.used x → new.used ≡ old.used + 1
      → new.stack.items ≡ old.stack.items ++ x ∷ [] → FoldsOn number g symbols Shift old new
  shift_folds old new x l is used stack =
      let all = map (symbol_of number) symbols in
      let one = symbol_of number x in
      let there : old.used < length all = omega (arith, l, length-map symbols (symbol_of number)) in
      let read : get_or all old.used one ≡ one = get_or-map (symbol_of number) symbols old.used x ∙ ap (symbol_of number) (sym is) in
      let stack_now : stack_of number new ≡ stack_of number old ++ one ∷ [] = ap (map (symbol_of number)) stack ∙ map-append (symbol_of number) old.stack.items (x ∷ []) in
      let taken : take new.used all ≡ take old.used all ++ one ∷ [] =
      ap (λ n. take n all) used ∙ (take_more all old.used one there ∙ ap (λ y. take old.used all ++ y ∷ []) read) in
      let dropped : drop old.used all ≡ one ∷ drop new.used all =
      drop_more all old.used one there ∙ (ap (λ y. y ∷ drop (old.used + 1) all) read ∙ ap (λ n. one ∷ drop n all) (sym used)) in
      record {
        made = λ ms a. rw (taken, stack_now) (fold.Folds.shift one a);
        only = λ goal ms (y, z, e, f).
            let same : y ∷ z ≡ one ∷ drop new.used all = sym e ∙ dropped in
            let first : y ≡ one = cc in
            let behind : z ≡ drop new.used all = cc in
            rw stack_now (rw (first, behind) at f);
      }

  -- behind the symbols there is no shift
  pub no_shift : (f : Fold T) → length symbols ≤ f.used → CannotFold number g symbols Shift f
  no_shift f l = λ goal ms (y, z, e, rest).
      let none : left_of number symbols f ≡ [] = drop_all f.used (map (symbol_of number) symbols) (omega (arith, l, length-map symbols (symbol_of number))) in
      let no : y ∷ z ≡ [] = sym e ∙ none in
      cc

  -- a reduction of what is last on the stack
  pub reduce_folds :
      (old new : Fold T) (p : ℕ) (r : RIdx T) (body front : List (stored.Symbol T)) → map (symbol_of number) body ≡ body_of g p → IsProductionOf g p (number r.0)
      → old.stack.items ≡ front ++ body → new.used ≡ old.used → new.stack.items ≡ front ++ code.Rule r ∷ [] → FoldsOn number g symbols (Reduce p) old new
  reduce_folds old new p r body front is of_rule split used stack =
      let all = map (symbol_of number) symbols in
      let kept = map (symbol_of number) front in
      let ends : stack_of number old ≡ kept ++ body_of g p =
      ap (map (symbol_of number)) split ∙ (map-append (symbol_of number) front body ∙ ap (λ l. kept ++ l) is) in
      let stack_now : stack_of number new ≡ kept ++ Rule (number r.0) ∷ [] = ap (map (symbol_of number)) stack ∙ map-append (symbol_of number) front (code.Rule r ∷ []) in
      record {
        made = λ ms a. rw (used, stack_now) (fold.Folds.reduce kept p (number r.0) (rw ends at a) of_rule);
        only = λ goal ms (w, s, e, i, f).
            let same : w ≡ kept = append_cancel_right w kept (body_of g p) (sym e ∙ ends) in
            let one : s ≡ number r.0 = rule_unique g p s (number r.0) i of_rule in
            rw (stack_now, used) (rw (same, one) at f);
      }

  -- there is no reduction by a production that isn't there
  pub no_production : (f : Fold T) (p : ℕ) → length g.productions ≤ p → CannotFold number g symbols (Reduce p) f
  no_production f p l = λ goal ms (w, r, e, i, rest). let there : p < length g.productions = below_of_production g p r i in absurd (omega (arith, l, there))

  -- nor one whose body isn't last
  pub no_body : (f : Fold T) (p : ℕ) → ((front : List Symbol) → ¬ (stack_of number f ≡ front ++ body_of g p)) → CannotFold number g symbols (Reduce p) f
  no_body f p other = λ goal ms (w, r, e, i, rest). other w e

  -- how far moves have come: what they have made, and that what finishes all of them still finishes the others
  pub record HasMade (moves : List (stored-move.Move T)) (i : ℕ) (f : Fold T) : Type 0 where
    pub made : HasFolded number g symbols (moves_stored number (take i moves)) f
    pub only :
        (goal : List Symbol) → Finishes g goal (moves_stored number moves) [] (map (symbol_of number) symbols)
        → Finishes g goal (moves_stored number (drop i moves)) (stack_of number f) (left_of number symbols f)

  -- no move is made
  pub none_made : (moves : List (stored-move.Move T)) (f : Fold T) → HasFolded number g symbols [] f → stack_of number f ≡ [] → f.used ≡ 0 → HasMade moves 0 f
  none_made moves f made stack used = record { made = made; only = λ goal a. rw (stack, used) a }

  -- one move more
  pub made_more :
      (moves : List (stored-move.Move T)) (i : ℕ) (one : stored-move.Move T) (old new : Fold T) → i < length moves → one ≡ get_or moves i one
      → HasMade moves i old → FoldsOn number g symbols (move_of number one) old new → HasMade moves (i + 1) new
  made_more moves i one old new l is a on =
      let front : moves_stored number (take (i + 1) moves) ≡ moves_stored number (take i moves) ++ move_of number one ∷ [] =
      ap (moves_stored number) (take_more moves i one l ∙ ap (λ x. take i moves ++ x ∷ []) (sym is)) ∙ map-append (move_of number) (take i moves) (one ∷ []) in
      let back : moves_stored number (drop i moves) ≡ move_of number one ∷ moves_stored number (drop (i + 1) moves) =
      ap (moves_stored number) (drop_more moves i one l ∙ ap (λ x. x ∷ drop (i + 1) moves) (sym is)) in
      record {
        made = rw front (on.made (moves_stored number (take i moves)) a.made);
        only = λ goal f. on.only goal (moves_stored number (drop (i + 1) moves)) (rw back at (a.only goal f));
      }

  -- where the next move can't be made, the moves derive the symbols of no rule
  pub none_derived :
      (moves : List (stored-move.Move T)) (i : ℕ) (one : stored-move.Move T) (f : Fold T) (r : ℕ) → i < length moves → one ≡ get_or moves i one
      → HasMade moves i f → CannotFold number g symbols (move_of number one) f → ¬ (IsDerivedBy g r (map (symbol_of number) symbols) (moves_stored number moves))
  none_derived moves i one f r l is a stuck d =
      let back : moves_stored number (drop i moves) ≡ move_of number one ∷ moves_stored number (drop (i + 1) moves) =
      ap (moves_stored number) (drop_more moves i one l ∙ ap (λ x. x ∷ drop (i + 1) moves) (sym is)) in
      stuck (Rule r ∷ []) (moves_stored number (drop (i + 1) moves)) (rw back at (a.only (Rule r ∷ []) (finishes_derived d)))

  -- and where all are made, they do where the rule is alone on the stack and all symbols are read
  module _ (moves : List (stored-move.Move T)) (i : ℕ) (f : Fold T) (r : ℕ) (l : length moves ≤ i) (a : HasMade moves i f) where
    pub derived : length symbols ≤ f.used → stack_of number f ≡ Rule r ∷ [] → IsDerivedBy g r (map (symbol_of number) symbols) (moves_stored number moves)
    derived all alone =
        let whole : take f.used (map (symbol_of number) symbols) ≡ map (symbol_of number) symbols =
        take_all f.used (map (symbol_of number) symbols) (omega (arith, all, length-map symbols (symbol_of number))) in
        rw (take_all i moves l, whole, alone) at a.made

    pub all_derived : IsDerivedBy g r (map (symbol_of number) symbols) (moves_stored number moves) → (length symbols ≤ f.used) × (stack_of number f ≡ Rule r ∷ [])
    all_derived d =
        let none : drop i moves ≡ [] = drop_all i moves l in
        let ended : (stack_of number f ≡ Rule r ∷ []) × (left_of number symbols f ≡ []) = rw none at (a.only (Rule r ∷ []) (finishes_derived d)) in
        let count : length (left_of number symbols f) ≡ 0 = ap length ended.1 in
        (omega (arith, count, length-drop f.used (map (symbol_of number) symbols), length-map symbols (symbol_of number)), ended.0)
