-- no two ways stand as a node of a certificate says
use Rattle.std.proofs.Common.{ℕ, zero, suc, ◌<◌, ◌≤◌, List, arith}
use Rattle.std.specs.Prelude.{Contains}
use Rattle.lrspec.specs.grammars.Grammar.{Grammar, IsGrammar}
use Rattle.lrspec.specs.merging.Graph.{Graph, IsGraphOf}
use Rattle.lrdecided.specs.Nodes as nodes
use Rattle.lrdecided.specs.Rules as rule
use Rattle.lrdecided.specs.Rules.{IsSettled, Proceeds}
use Rattle.lrdecided.proofs.Ways.{Holds, holds_swapped}
use Rattle.lrdecided.proofs.Impossible.{impossible}
use Rattle.lrdecided.proofs.Taken.{covered, taken}
use Rattle.lrdecided.proofs.Proceeding.{proceeds}

module _ (g : Grammar) (h : Graph) (shape : IsGrammar g) (m : IsGraphOf g h) (listed : List nodes.Node) where
  -- where two ways stand as a settled node says, two stand as a listed one says, with no more to come
  comes_to_listed : {a : nodes.Node} {n : ℕ} → IsSettled g listed a → Holds g h a n → (b : nodes.Node) × Contains listed b × ((k : ℕ) × (k ≤ n) × Holds g h b k)
  comes_to_listed (rule.IsSettled.impossible i) k = absurd (impossible shape i k)
  comes_to_listed {n = n} (rule.IsSettled.listed b is c) k = (b, is, (n, omega arith, covered c k))
  comes_to_listed (rule.IsSettled.take t y z s e f i) k =
      let (less, below, holds) = taken t y z s e f k in
      let (b, is, (size, within, there)) = comes_to_listed i holds in
      (b, is, (size, omega (arith, below, within), there))
  comes_to_listed (rule.IsSettled.swapped i) k = comes_to_listed i (holds_swapped k)

  module _ (all : (b : nodes.Node) → Contains listed b → Proceeds g h (IsSettled g listed) b) where
    -- none stand as a listed node says, with less than so much to come
    none_listed : (most : ℕ) (b : nodes.Node) → Contains listed b → (n : ℕ) → n < most → Holds g h b n → ⊥
    none_listed zero b is n l k = absurd (omega (arith, l))
    none_listed (suc most) b is n l k =
        let to = proceeds g h m (IsSettled g listed) (all b is) k in
        let (c, there, (size, within, holds)) = comes_to_listed to.member to.holds in
        none_listed most c there size (omega (arith, to.below, within, l)) holds

    -- nor as a settled one says
    pub none_settled : {a : nodes.Node} {n : ℕ} → IsSettled g listed a → Holds g h a n → ⊥
    none_settled i k =
        let (b, is, (size, within, holds)) = comes_to_listed i k in none_listed (suc size) b is size (omega arith) holds
