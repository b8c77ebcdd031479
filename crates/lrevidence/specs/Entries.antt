-- entries that a table lists
use Rattle.std.specs.Prelude.{List, map}
use Rattle.std.specs.List.Sorted.{IsPermutation}
use Rattle.lrspec.specs.grammars.Grammar.{Grammar}
use Rattle.lrspec.specs.merging.Graph.{Graph}
use Rattle.lrverdicts.specs.declared.conflicts.Entry.{Entry}
use Rattle.lrverdicts.specs.Listed.{told, listed}
use Rattle.lrconflicts.specs.Entries.{lists_in}

-- these are the entries of both lists of the graph's table
abbrev pub AreListedIn : Grammar → Graph → List Entry → Type 0
AreListedIn g h entries = IsPermutation (listed (lists_in g h)) (map told entries)
