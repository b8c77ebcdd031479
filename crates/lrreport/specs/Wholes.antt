-- what a note tells of, with all its entries
use Rattle.std.specs.Prelude.{List, map}
use Rattle.lrverdicts.specs.declared.conflicts.Entry.{Entry}
use Rattle.lrreport.specs.declared.notes.Whole.{Whole}
use Rattle.lrreport.specs.declared.notes.Whole.TheVariants.{Conflict, Resolved}
use Rattle.lrreport.specs.Causes.{entries_in}

-- of a conflict those of all its states
abbrev pub entries_of_whole : Whole → List Entry
entries_of_whole (Conflict cause) = map (λ e. e.entry) (entries_in cause.now)
entries_of_whole (Resolved resolution) = resolution.now.entries.items
