-- which conflicts are left open
use Rattle.std.specs.Prelude.{List, map}
use Rattle.lrspec.specs.grammars.Grammar.{Grammar}
use Rattle.lrspec.specs.merging.Graph.{Graph}
use Rattle.lrspec.specs.tables.LrTables.{HasNoPrecedences}
use Rattle.lrverdicts.specs.declared.conflicts.Entry.{Entry}
use Rattle.lrverdicts.specs.Listed.{told}
use Rattle.lrfindings.specs.ReachedStates.{AreLeft}
use Rattle.lrevidence.specs.Entries.{AreListedIn}

-- those of the graph's table where no token has a precedence, and else those that precedences leave open in its states that are
-- reached
pub record AreLeftOpen (g : Grammar) (h : Graph) (entries : List Entry) : Type 0 where
  pub plain : HasNoPrecedences g → AreListedIn g h entries
  pub others : ¬ (HasNoPrecedences g) → AreLeft g h (map told entries)
