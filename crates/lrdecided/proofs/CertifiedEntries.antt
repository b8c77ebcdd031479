-- entries that are certified
use Rattle.std.proofs.Common.{ℕ, List, Option, None, Some}
use Rattle.std.specs.Prelude.{IfSome}
use Rattle.lrspec.specs.grammars.Grammar.{Grammar, IsGrammar}
use Rattle.lrspec.specs.merging.Graph.{Graph, IsGraphOf}
use Rattle.lrdecided.specs.Entries.{Entry, AreStarts, IsCertified, IsDecidedAt, IsDecidedAtBy}
use Rattle.lrdecided.specs.Moved.{AreSettled, AllProceed}
use Rattle.lrdecided.specs.Nodes.{Node}
use Rattle.lrdecided.proofs.DecidedEntries.{decided_within, decided}

-- nodes from which all moves are settled certify an entry whose starts are settled
pub certifies :
    (g : Grammar) (h : Graph) (e : Entry) (left : Option ℕ) (starts listed : List Node) → AreStarts g h e left starts → AreSettled g listed starts → AllProceed g h listed
    → IsCertified g h e left
certifies g h e left starts listed k settled proceed = (
  listed,
  record {
    states = k.states;
    cores = k.cores;
    begins = λ x y b c. settled _ (k.starts x (k.all_ones x b) y (k.all_others y c));
    proceeds = proceed;
  },
)

module _ (g : Grammar) (h : Graph) (graph : IsGraphOf g h) (shape : IsGrammar g) (e : Entry) where
  -- an entry that is certified by all tokens that come is decided
  pub certified_decided : IsCertified g h e None → IsDecidedAt g h e
  certified_decided (listed, c) =
      decided g h e.state e.token graph shape e.one e.other (decided_within g h e.state e.token graph shape e.one e.other None listed c)

  -- and one that is by so many tokens is decided by these
  pub certified_by : (o : Option ℕ) → IfSome o (λ k. IsCertified g h e (Some k)) → IfSome o (λ k. IsDecidedAtBy g h e k)
  certified_by None k = tt
  certified_by (Some n) (listed, c) = decided_within g h e.state e.token graph shape e.one e.other (Some n) listed c
