-- grammars for which what is kept makes tables exact
use Rattle.lrspec.specs.grammars.Grammar.{Grammar}
use Rattle.lrspec.specs.merging.Graph.{Graph, IsGraphOf}
use Rattle.lrspec.specs.tables.Table.{Table, IsTableOf}
use Rattle.lrlosses.specs.Exactness.{IsExact, IsExactButAtErrors}
use Rattle.lrkept.specs.Kept.{AreKept, AreKeptButAtErrors}

-- each table of the grammar is exact for which all is kept that its cells don't take
abbrev pub IsExactWhereKept : Grammar → Type 0
IsExactWhereKept g =
    (h : Graph) (b : Table) → IsGraphOf g h → IsTableOf g h b → AreKept g h b → IsExact g b

-- and it is but for crowded errors where that is so of the other cells
abbrev pub IsExactWhereKeptButAtErrors : Grammar → Type 0
IsExactWhereKeptButAtErrors g =
    (h : Graph) (b : Table) → IsGraphOf g h → IsTableOf g h b → AreKeptButAtErrors g h b
    → IsExactButAtErrors g h b
