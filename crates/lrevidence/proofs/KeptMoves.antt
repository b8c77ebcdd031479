-- entries at which both moves are kept
use Rattle.std.proofs.Common.{◌≡◌, List, Option, Some, subst}
use Rattle.std.specs.Prelude.{All}
use Rattle.lrspec.specs.grammars.Grammar.{Grammar}
use Rattle.lrspec.specs.merging.Graph.{Graph}
use Rattle.lrspec.specs.tables.Table.{Table}
use Rattle.lrdecided.specs.Entries as decided
use Rattle.lrkept.specs.Kept.{IsKept}
use Rattle.lrverdicts.specs.declared.conflicts.Entry.{Entry}
use Rattle.lrevidence.specs.DecidedEntries.{meeting_of}
use Rattle.lrevidence.specs.KeptEntries.{IsKeptEntry, IsToldKept}

module _ (g : Grammar) (h : Graph) (b : Table) where
  -- an entry is kept if both moves are that meet in it
  pub both_kept :
      (e : Entry) (x : decided.Entry) → x ≡ meeting_of e → IsKept g h b x.state x.token x.one → IsKept g h b x.state x.token x.other
      → IsKeptEntry g h b e
  both_kept e x same one other = record {
    one = subst (λ x. IsKept g h b x.state x.token x.one) same one;
    other = subst (λ x. IsKept g h b x.state x.token x.other) same other;
  }

  -- what is so of each by the graph is told by one that is kept
  pub told_kept : (o : Option Graph) (es : List Entry) → o ≡ Some h → All (IsKeptEntry g h b) es → All (IsToldKept g o b) es
  told_kept o es is each = rw is each
