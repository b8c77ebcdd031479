-- ways on from a stack are trees of all the text, and trees are ways on
use Rattle.std.proofs.Common.{ℕ, zero, suc, ◌<◌, List, [], ◌∷◌, ◌++◌, length, refl, append_assoc, append-nil, arith}
use Rattle.std.specs.Prelude.{slice_get}
use Rattle.lrspec.specs.grammars.Grammar.{Symbol, Rule, Production, Grammar, IsGrammar, IsOfRule, body_of}
use Rattle.lrspec.specs.grammars.Trees.{Tree, Forest}
use Rattle.lrspec.proofs.grammars.TreeFacts.{forest_split, forest_size, forest_alone}
use Rattle.lrspec.proofs.tables.MachineStacks.{start_body}
use Rattle.lrconflicts.specs.Moves.{Move, Shift, Reduce, IsTreeBy}
use Rattle.lrambiguity.specs.Replays.{Reads}
use Rattle.lrambiguity.proofs.DeadEnds.{nothing_shifted, body_there, tree_read}
use Rattle.lrambiguity.proofs.ReadingSteps.{read_shift, read_reduce, read_tree}
use Rattle.lrambiguity.specs.Finishing as way
use Rattle.lrambiguity.specs.Finishing.{Finishes}

-- a production has a rule
rule_there : (ps : List Production) (p : ℕ) → p < length ps → (r : ℕ) × IsOfRule (slice_get ps p) r
rule_there [] p l = absurd (omega (arith, l))
rule_there (q ∷ ps) zero l = (q.rule, refl)
rule_there (q ∷ ps) (suc p) l = rule_there ps p (omega arith)

module _ {g : Grammar} (shape : IsGrammar g) where
  -- what is read so far and a way on are a tree of all
  pub tree_of_way :
      {v : List Symbol} {ms : List Move} {text : List ℕ} → Finishes g v ms text → {before : List Move} {used : List ℕ} {ts : Forest} → Reads g before used v ts
      → (t : Tree) × IsTreeBy g (before ++ ms) (used ++ text) t
  tree_of_way way.Finishes.done {before} {used} reads =
      let one = forest_alone (Rule shape.start.0) reads.roots (start_body shape) in
      (one.0, rw (append-nil before, append-nil used) (read_tree shape.start.0 one.0 (rw one.2 at reads) (start_body shape) (start_body shape)))
  tree_of_way (way.Finishes.shift {ms = ms} {text = text} t f) {before} {used} reads =
      let tree = tree_of_way f (read_shift t reads) in
      (tree.0, rw (append_assoc before (Shift ∷ []) ms, append_assoc used (t ∷ []) text) at tree.1)
  tree_of_way (way.Finishes.reduce {ms = ms} v p r i f) {before} reads =
      let (us, zs, front, last, e) = forest_split v (body_of g p) (v ++ body_of g p) reads.roots refl in
      let tree = tree_of_way f (read_reduce p r v us zs reads refl i e (forest_size last)) in
      (tree.0, rw (append_assoc before (Reduce p ∷ []) ms) at tree.1)

  -- and a tree of all is a way on from what is read
  pub way_of_tree :
      (ms : List Move) (text : List ℕ) {before : List Move} {used : List ℕ} {v : List Symbol} {ts : Forest} (t : Tree) → Reads g before used v ts
      → IsTreeBy g (before ++ ms) (used ++ text) t → Finishes g v ms text
  way_of_tree [] text {before} {used} t reads a =
      let end = tree_read text t reads refl (rw (append-nil before) at a) in
      rw (end.0, end.1) way.Finishes.done
  way_of_tree (Shift ∷ ms) [] {before} {used} t reads a =
      absurd (nothing_shifted shape reads (used ++ []) [] refl ms t refl (rw (append_assoc before (Shift ∷ []) ms) a))
  way_of_tree (Shift ∷ ms) (n ∷ text) {before} {used} t reads a =
      way.Finishes.shift n
      (way_of_tree ms text t (read_shift n reads) (rw (append_assoc before (Shift ∷ []) ms, append_assoc used (n ∷ []) text) a))
  way_of_tree (Reduce p ∷ ms) text {before} {used} {v} t reads a =
      let whole : IsTreeBy g ((before ++ Reduce p ∷ []) ++ ms) (used ++ text) t = rw (append_assoc before (Reduce p ∷ []) ms) a in
      let (below, (front, e)) = body_there shape reads (used ++ text) text refl p ms t whole in
      let (r, i) = rule_there g.productions p (omega (arith, below, shape.last)) in
      let (us, zs, first, last, parts) = forest_split front (body_of g p) v reads.roots e in
      rw e (way.Finishes.reduce front p r i (way_of_tree ms text t (read_reduce p r front us zs reads e i parts (forest_size last)) whole))
