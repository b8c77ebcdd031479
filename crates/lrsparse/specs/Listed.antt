-- a list of entries, whose numbers are the same in 32 bits and in more
use Rattle.std.specs.Prelude.{ℕ, ◌<◌, ◌^◌, List}
use Rattle.lrsparse.specs.declared.sparsevec.entries.Entry.{Entry}
use Rattle.lrsparse.specs.declared.sparsevec.entries.Entries.{Entries}
use Rattle.lrsparse.specs.declared.sparsevec.entries.Entries.TheVariants.{Narrow, Wide}

-- the entries of a list, in however many bits they stand there
abbrev pub listed : Entries → List (Entry ℕ)
listed (Narrow list) = list.items
listed (Wide list) = list.items

-- the entry fits into the list as it is
abbrev pub Fits : Entries → Entry ℕ → Type 0
Fits (Narrow _) e = (e.row < 2 ^ 32) × (e.number < 2 ^ 32)
Fits (Wide _) e = Unit {0}
