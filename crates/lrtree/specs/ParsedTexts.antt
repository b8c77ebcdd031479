-- what parsing tells of a run of the machine
use Rattle.std.specs.Prelude.{◌≡◌, ℕ, List}
use Rattle.lrspec.specs.grammars.Grammar.{Grammar}
use Rattle.lrspec.specs.grammars.Trees.{order, IsSentence}
use Rattle.lrspec.specs.tables.Machine as machine
use Rattle.lrspec.specs.texts.TreeTexts.{IsPrintable}
use Rattle.lrtree.specs.declared.parsing.Parsed as stored
use Rattle.lrtree.specs.declared.parsing.Parsed.TheVariants as parsed
use Rattle.lrtree.specs.StoredTrees.{tree_of}

-- the verdict of the run: a tree where it accepted
abbrev pub Tells : {T : Type 0} → stored.Parsed T → machine.Verdict → Type 0
Tells (parsed.Tree v) w = w ≡ machine.Verdict.Accepted
Tells parsed.Rejected w = w ≡ machine.Verdict.Rejected
Tells parsed.Unfinished w = w ≡ machine.Verdict.Unfinished

-- a tree that is told is one of the text, for the start rule, with these productions in order
abbrev pub HasTheTree :
    {T : Type 0} → (T → ℕ) → Grammar → List ℕ → List ℕ → stored.Parsed T → Type 0
HasTheTree number g text rs (parsed.Tree v) =
    (s : IsSentence g text) × (s.tree ≡ tree_of number v) × (order s.tree ≡ rs)
HasTheTree number g text rs _ = Unit {0}

-- and the text has no other
abbrev pub HasTheOnlyTree : {T : Type 0} → (T → ℕ) → Grammar → List ℕ → stored.Parsed T → Type 0
HasTheOnlyTree number g text (parsed.Tree v) = (s : IsSentence g text) → s.tree ≡ tree_of number v
HasTheOnlyTree number g text _ = Unit {0}

-- its text can be printed
abbrev pub HasPrintableTree : {T : Type 0} → (T → ℕ) → Grammar → stored.Parsed T → Type 0
HasPrintableTree number g (parsed.Tree v) = IsPrintable g (tree_of number v)
HasPrintableTree number g _ = Unit {0}
