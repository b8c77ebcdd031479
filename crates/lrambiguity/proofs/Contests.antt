-- both moves contend where the trees part
use Rattle.std.proofs.Common.{◌≡◌, ℕ, List, ◌∷◌, ◌++◌, take, drop, sym, ap, ◌∙◌}
use Rattle.std.proofs.lemmas.List.{take-append-drop}
use Rattle.lrspec.specs.grammars.Grammar.{Symbol, Grammar, IsGrammar}
use Rattle.lrspec.specs.grammars.Trees.{Tree, Forest}
use Rattle.lrspec.specs.grammars.Candidates.{IsCandidate}
use Rattle.lrspec.specs.grammars.ItemSets.{Items, HasItem}
use Rattle.lrspec.specs.merging.Cores.{HasCoreAfter}
use Rattle.lrspec.specs.merging.Graph.{Graph}
use Rattle.lrspec.specs.tables.Machine.{next_token}
use Rattle.lrconflicts.specs.Moves.{Move, candidate_of, IsTreeBy}
use Rattle.lrambiguity.specs.Partings.{Contend, PartAt}
use Rattle.lrambiguity.specs.Replays.{Reads}
use Rattle.lrambiguity.proofs.NextMoves.{next_is_candidate}

module _ {g : Grammar} (shape : IsGrammar g) (before : List Move) (text : List ℕ) (used : ℕ) (w : List Symbol) (ts : Forest) (reads : Reads g before (take used text) w ts) (n : ℕ) (next : next_token g (drop used text) ≡ n) where
  -- the first of the moves behind those that are made is a candidate
  first_is_candidate : (ms : List Move) (t : Tree) (m : Move) (rest : List Move) → ms ≡ m ∷ rest → IsTreeBy g (before ++ ms) text t → IsCandidate g w n (candidate_of m)
  first_is_candidate ms t m rest e a =
      rw next at (next_is_candidate shape (drop used text) t m rest a.of_start (a.leaves_are ∙ sym (take-append-drop used text)) (a.moves_are ∙ ap (λ l. before ++ l) e) reads)

-- where trees part both moves are candidates
pub contend :
    {g : Grammar} → IsGrammar g → (h : Graph) (s : ℕ) {n : ℕ} {m k : Move} {text : List ℕ} {before one other : List Move} (t u : Tree)
    → PartAt g h s n m k text before one other → IsTreeBy g (before ++ one) text t → IsTreeBy g (before ++ other) text u
    → Contend g h s n m k
contend shape h s {n = n} {m = m} {k = k} {text = text} {before = before} {one = one} {other = other} t u p a b = record {
  roots = p.roots;
  core = p.core;
  is_one = first_is_candidate shape before text p.used p.roots p.trees p.reads n p.next one t m p.first.0 p.first.1 a;
  is_other = first_is_candidate shape before text p.used p.roots p.trees p.reads n p.next other u k p.second.0 p.second.1 b;
}

-- item sets with the same items have the core after the same lists
pub same_core : {g : Grammar} {w : List Symbol} {a b : Items} → ((p d : ℕ) → HasItem a p d → HasItem b p d) → ((p d : ℕ) → HasItem b p d → HasItem a p d) → HasCoreAfter g w a → HasCoreAfter g w b
same_core f k c = record {
  items = λ p d. (λ i. (c.items p d).0 (k p d i), λ i. f p d ((c.items p d).1 i));
  some = (c.some.0, c.some.1, f c.some.0 c.some.1 c.some.2);
}
