-- what shifts and reductions make of stored trees and roots
use Rattle.std.proofs.Common.{◌≡◌, ℕ, ◌+◌, ◌<◌, ◌≤◌, List, [], ◌∷◌, ◌++◌, length, map, take, drop, get_or, refl, sym, ap, ◌∙◌, suc, append_assoc, append-nil, Option, None, Some, arith}
use Rattle.std.specs.Prelude.{IfSome, IfNone, IsSome}
use Rattle.std.specs.Option.{option_to_list}
use Rattle.std.proofs.lemmas.List.{take_more, map-append, length-map, take_all, length-append, take-append-drop}
use Rattle.std.proofs.Math.ListN.{get_or-map}
use Rattle.lrgrammar.specs.declared.idx.Symbol.{Symbol}
use Rattle.lrgrammar.specs.declared.idx.Symbol.TheVariants as code
use Rattle.lrgrammar.specs.declared.idx.RIdx.{RIdx}
use Rattle.lrgrammar.specs.declared.idx.TIdx.{TIdx}
use Rattle.lrgrammar.specs.Symbols.{symbol_of}
use Rattle.lrspec.specs.grammars.Grammar as plain
use Rattle.lrspec.specs.grammars.Grammar.{Grammar, IsGrammar, body_of, IsProductionOf}
use Rattle.lrspec.specs.grammars.Trees as math
use Rattle.lrspec.specs.grammars.Trees.{Forest, Bare, And, joined, size, IsForest}
use Rattle.lrspec.proofs.grammars.TreeFacts.{forest_size}
use Rattle.lrspec.proofs.tables.MachineStacks.{start_body}
use Rattle.lrtable.specs.RunAnswers.{text_of}
use Rattle.lrtree.specs.declared.trees.Tree.{Tree}
use Rattle.lrtree.specs.StoredTrees.{tree_of, forest_of}
use Rattle.lrconflicts.specs.declared.moves.Move as stored
use Rattle.lrambiguity.specs.declared.replays.Replay.{Replay}
use Rattle.lrconflicts.specs.Moves.{Move, Shift, Reduce, IsTreeBy, HasNoTree}
use Rattle.lrconflicts.specs.StoredMoves.{move_of, moves_stored}
use Rattle.lrambiguity.specs.StoredReplays.{roots_of, HasMade, HasMadeSome, Makes}
use Rattle.lrambiguity.specs.Replays.{Reads}
use Rattle.lrambiguity.specs.Inputs.{IsReadAs}
use Rattle.lrambiguity.proofs.ReadingSteps.{read_shift, read_reduce, read_tree}

-- the same with equal texts, roots and trees
reads_same :
    {g : Grammar} {ms : List Move} {text used : List ℕ} {v w : List plain.Symbol} {ts us : Forest} → Reads g ms text w ts
    → used ≡ text → v ≡ w → us ≡ ts → Reads g ms used v us
reads_same a e f k = rw (e, f, k) a

module _ {T : Type 0} (number : T → ℕ) where
  -- trees behind others
  trees_append : (xs ys : List (Tree T)) → forest_of number (xs ++ ys) ≡ joined (forest_of number xs) (forest_of number ys)
  trees_append [] ys = refl
  trees_append (x ∷ xs) ys = ap (λ ts. And (tree_of number x) ts) (trees_append xs ys)

  -- there are as many as are stored
  trees_count : (xs : List (Tree T)) → size (forest_of number xs) ≡ length xs
  trees_count [] = refl
  trees_count (x ∷ xs) = ap suc (trees_count xs)

  -- as many trees as roots
  pub count_of_roots :
      (g : Grammar) (roots : List (Symbol T)) (trees : List (Tree T)) → IsForest g (map (symbol_of number) roots) (forest_of number trees)
      → length trees ≡ length roots
  count_of_roots g roots trees f = sym (trees_count trees) ∙ forest_size f ∙ length-map roots (symbol_of number)

  module _ (g : Grammar) (ms : List Move) (roots : List (Symbol T)) (trees : List (Tree T)) where
    -- a shift of the token behind those that are used
    pub shift_made :
        (text : List (TIdx T)) (used now : ℕ) (t : TIdx T) (leaf : Tree T) (roots_now : List (Symbol T)) (trees_now : List (Tree T))
        → used < length text → t ≡ get_or text used t → now ≡ used → tree_of number leaf ≡ math.Leaf (number t.0)
        → trees_now ≡ trees ++ leaf ∷ [] → roots_now ≡ roots ++ code.Token t ∷ []
        → Reads g ms (take used (text_of number text)) (map (symbol_of number) roots) (forest_of number trees)
        → Reads g (ms ++ Shift ∷ []) (take (now + 1) (text_of number text)) (map (symbol_of number) roots_now) (forest_of number trees_now)
    shift_made text used now t leaf roots_now trees_now l is same one e f a =
        let there : used < length (text_of number text) = omega (arith, l, length-map text (λ x. number x.0)) in
        let more = ap (λ n. take (n + 1) (text_of number text)) same ∙ take_more (text_of number text) used (number t.0) there in
        let last : get_or (text_of number text) used (number t.0) ≡ number t.0 = get_or-map (λ (x : TIdx T). number x.0) text used t ∙ ap (λ x. number x.0) (sym is) in
        reads_same (read_shift (number t.0) a)
        (more ∙ ap (λ n. take used (text_of number text) ++ n ∷ []) last)
        (ap (map (symbol_of number)) f ∙ map-append (symbol_of number) roots (code.Token t ∷ []))
        (ap (forest_of number) e ∙ trees_append trees (leaf ∷ []) ∙ ap (λ u. joined (forest_of number trees) (And u Bare)) one)

    -- a reduction of the last trees, whose roots are the body
    pub reduce_made :
        (text : List ℕ) (p : ℕ) (r : RIdx T) (body front roots_now : List (Symbol T)) (node : Tree T) (others children trees_now : List (Tree T))
        → map (symbol_of number) body ≡ body_of g p → IsProductionOf g p (number r.0) → roots ≡ front ++ body
        → trees ≡ others ++ children → length children ≡ length body → tree_of number node ≡ math.Node p (forest_of number children)
        → trees_now ≡ others ++ node ∷ [] → roots_now ≡ front ++ code.Rule r ∷ []
        → Reads g ms text (map (symbol_of number) roots) (forest_of number trees)
        → Reads g (ms ++ Reduce p ∷ []) text (map (symbol_of number) roots_now) (forest_of number trees_now)
    reduce_made text p r body front roots_now node others children trees_now is of_rule split cut count one e f a =
        let w = map (symbol_of number) front in
        let us = forest_of number others in
        let zs = forest_of number children in
        let ends : map (symbol_of number) roots ≡ w ++ body_of g p =
        ap (map (symbol_of number)) split ∙ map-append (symbol_of number) front body ∙ ap (λ l. w ++ l) is in
        let length_is : size zs ≡ length (body_of g p) = trees_count children ∙ count ∙ sym (length-map body (symbol_of number)) ∙ ap length is in
        reads_same (read_reduce p (number r.0) w us zs a ends of_rule (ap (forest_of number) cut ∙ trees_append others children) length_is)
        refl
        (ap (map (symbol_of number)) f ∙ map-append (symbol_of number) front (code.Rule r ∷ []))
        (ap (forest_of number) e ∙ trees_append others (node ∷ []) ∙ ap (λ u. joined us (And u Bare)) one)

  -- where the roots are the body of the start production, there is one tree
  pub one_tree :
      (g : Grammar) (roots : List (Symbol T)) (trees : List (Tree T)) → IsGrammar g → map (symbol_of number) roots ≡ body_of g g.start_production
      → IsForest g (map (symbol_of number) roots) (forest_of number trees) → length trees ≡ 1
  one_tree g roots trees m start f = count_of_roots g roots trees f ∙ sym (length-map roots (symbol_of number)) ∙ ap length (start ∙ start_body m)

  -- where all the text is used too, the last tree is one of the text
  pub tree_alone :
      (g : Grammar) (ms : List Move) (text : List (TIdx T)) (used : ℕ) (roots : List (Symbol T)) (trees others : List (Tree T)) (t : Tree T) → IsGrammar g
      → map (symbol_of number) roots ≡ body_of g g.start_production → length text ≤ used → trees ≡ others ++ t ∷ []
      → Reads g ms (take used (text_of number text)) (map (symbol_of number) roots) (forest_of number trees)
      → IsTreeBy g ms (text_of number text) (tree_of number t)
  tree_alone g ms text used roots trees others t m start all last a = by_others others last
    where
      used_all : text_of number text ≡ take used (text_of number text)
      used_all = sym (take_all used (text_of number text) (omega (arith, all, length-map text (λ x. number x.0))))

      by_others : (os : List (Tree T)) → trees ≡ os ++ t ∷ [] → IsTreeBy g ms (text_of number text) (tree_of number t)
      by_others [] e = read_tree m.start.0 (tree_of number t) (reads_same a used_all (sym (start ∙ start_body m)) (ap (forest_of number) (sym e))) refl (start_body m)
      by_others (o ∷ os) e = absurd (omega (arith, one_tree g roots trees m start a.roots, ap length e, length-append os (t ∷ [])))

  -- where all the text is used, the roots derive it
  pub list_read :
      (g : Grammar) (ms : List Move) (text : List (TIdx T)) (r : Replay T) (w : List plain.Symbol) → length text ≤ r.used → roots_of number r ≡ w
      → HasMade number g (text_of number text) ms r → IsReadAs g w (text_of number text) ms
  list_read g ms text r w all roots a =
      let used_all : text_of number text ≡ take r.used (text_of number text) =
      sym (take_all r.used (text_of number text) (omega (arith, all, length-map text (λ x. number x.0)))) in
      (forest_of number r.trees.items, reads_same a used_all (sym roots) refl)

  module _ (g : Grammar) (text : List (TIdx T)) (r : Replay T) (m : IsGrammar g) (start : map (symbol_of number) r.roots.items ≡ body_of g g.start_production) where
    -- so is the tree that is taken from the end
    pub last_tree_alone :
        (others : List (Tree T)) (o : Option (Tree T)) → length text ≤ r.used → r.trees.items ≡ others ++ option_to_list o
        → IfSome o (λ t. (ms : List Move) → HasMade number g (text_of number text) ms r → IsTreeBy g ms (text_of number text) (tree_of number t))
    last_tree_alone others None all last = tt
    last_tree_alone others (Some t) all last = λ ms. tree_alone g ms text r.used r.roots.items r.trees.items others t m start all last

    -- and there is such a tree
    pub last_tree_there :
        (o : Option (Tree T)) → (0 < length r.trees.items → IsSome o)
        → IfNone o ((ms : List Move) → HasMade number g (text_of number text) ms r → HasNoTree g ms (text_of number text))
    last_tree_there None there = λ ms a t b. let some : IsSome {T = Tree T} None = there (omega (arith, one_tree g r.roots.items r.trees.items m start a.roots)) in cc
    last_tree_there (Some t) there = tt

  -- the moves that are made, the next one, and the others
  pub moves_split :
      (ms rest : List Move) (moves : List (stored.Move T)) (i : ℕ) (one : stored.Move T) → i < length moves → one ≡ get_or moves i one
      → (ms ++ moves_stored number moves) ++ rest
      ≡ ((ms ++ moves_stored number (take i moves)) ++ move_of number one ∷ []) ++ (moves_stored number (drop (i + 1) moves) ++ rest)
  moves_split ms rest moves i one l is =
      let next : take (i + 1) moves ≡ take i moves ++ one ∷ [] = take_more moves i one l ∙ ap (λ x. take i moves ++ x ∷ []) (sym is) in
      let front : moves_stored number (take (i + 1) moves) ≡ moves_stored number (take i moves) ++ move_of number one ∷ [] =
      ap (moves_stored number) next ∙ map-append (move_of number) (take i moves) (one ∷ []) in
      let whole : moves_stored number moves ≡ (moves_stored number (take i moves) ++ move_of number one ∷ []) ++ moves_stored number (drop (i + 1) moves) =
      ap (moves_stored number) (sym (take-append-drop (i + 1) moves)) ∙ map-append (move_of number) (take (i + 1) moves) (drop (i + 1) moves)
      ∙ ap (λ x. x ++ moves_stored number (drop (i + 1) moves)) front in
      ap (λ x. (ms ++ x) ++ rest) whole ∙ simp append_assoc

  -- no moves make nothing
  pub makes_nothing : (g : Grammar) (text : List ℕ) (r : Replay T) → Makes number g text [] r r
  makes_nothing g text r = λ ms a. rw append-nil a

  -- one move more
  pub makes_more :
      (g : Grammar) (text : List ℕ) (moves : List (stored.Move T)) (i : ℕ) (one : stored.Move T) (first old new : Replay T) → i < length moves → one ≡ get_or moves i one
      → Makes number g text (moves_stored number (take i moves)) first old → Makes number g text (move_of number one ∷ []) old new
      → Makes number g text (moves_stored number (take (i + 1) moves)) first new
  makes_more g text moves i one first old new l is before then = λ ms a.
      let next : take (i + 1) moves ≡ take i moves ++ one ∷ [] = take_more moves i one l ∙ ap (λ x. take i moves ++ x ∷ []) (sym is) in
      let all : moves_stored number (take (i + 1) moves) ≡ moves_stored number (take i moves) ++ move_of number one ∷ [] = ap (moves_stored number) next ∙ map-append (move_of number) (take i moves) (one ∷ []) in
      rw (all, ← append_assoc ms (moves_stored number (take i moves)) (move_of number one ∷ [])) (then (ms ++ moves_stored number (take i moves)) (before ms a))

  -- what has made some moves has made some more
  pub some_more : (g : Grammar) (text : List ℕ) (ns : List Move) (old new : Replay T) → Makes number g text ns old new → HasMadeSome number g text old → HasMadeSome number g text new
  some_more g text ns old new makes (ms, a) = (ms ++ ns, makes ms a)

  -- where nothing that was made is a tree, these moves put together none
  pub no_tree_made :
      {X : Type 0} (g : Grammar) (text : List ℕ) (r : Replay T) (ms : List Move) (o : Option X) → HasMade number g text ms r
      → IfNone o ((ns : List Move) → HasMade number g text ns r → HasNoTree g ns text) → IfNone o (HasNoTree g ms text)
  no_tree_made g text r ms None a none = none ms a
  no_tree_made g text r ms (Some x) a none = tt
