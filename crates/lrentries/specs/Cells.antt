-- which cells a set has
use Rattle.std.specs.Prelude.{◌≡◌, true, false}
use Rattle.std.specs.BTreeSet.{BTreeSet, contains}
use Rattle.lrfindings.specs.Cells.{Cell, cell_cmp}

-- the set has the cell
abbrev pub HasCell : BTreeSet Cell → Cell → Type 0
HasCell cells c = contains cell_cmp cells c ≡ true

-- the set lacks the cell
abbrev pub LacksCell : BTreeSet Cell → Cell → Type 0
LacksCell cells c = contains cell_cmp cells c ≡ false
