-- texts that are printed of a grammar
use Rattle.std.proofs.Common.{◌≡◌, ℕ, List, ◌++◌, codes, Result, Ok, Err}
use Rattle.std.specs.Prelude.{IfOk}
use Rattle.lrspec.specs.grammars.Grammar.{Grammar}
use Rattle.lrspec.specs.grammars.ItemSets.{Items}
use Rattle.lrspec.specs.merging.Graph.{Graph}
use Rattle.lrspec.specs.tables.Table.{Lists, Table, lists_of}
use Rattle.lrspec.specs.tables.LrTables.{ListsNothing}
use Rattle.lrspec.specs.texts.PrintedTexts.{items_text, core_text, closed_text, conflicts_text}
use Rattle.lrcommand.specs.declared.requests.Listing.TheVariants.{Start, Core, Closed, Conflicts}
use Rattle.lrcommand.specs.Printing.{Prints, IsStartState, IsMergedGraph, IsMergedTable, AcceptsAlone}

pub start_printed :
    {X E : Type 0} (bytes : X → List ℕ) (g : Grammar) (c : Items) (text : List ℕ) (r : Result X E) → IsStartState g c → text ≡ items_text g c
    → IfOk r (λ s. bytes s ≡ text ++ codes "\n") → IfOk r (λ s. Prints g Start (bytes s))
start_printed bytes g c text (Ok s) is e line = rw (line, e) (Prints.start is)
start_printed bytes g c text (Err x) is e line = tt

pub core_printed :
    (g : Grammar) (h : Graph) (text printed : List ℕ) → IsMergedGraph g h → AcceptsAlone g → text ≡ core_text g h → printed ≡ text ++ codes "\n"
    → Prints g Core printed
core_printed g h text printed is alone e line = rw (line, e) (Prints.core is alone)

pub closed_printed :
    (g : Grammar) (h : Graph) (text printed : List ℕ) → IsMergedGraph g h → AcceptsAlone g → text ≡ closed_text g h → printed ≡ text ++ codes "\n"
    → Prints g Closed printed
closed_printed g h text printed is alone e line = rw (line, e) (Prints.closed is alone)

pub conflicts_printed :
    (g : Grammar) (b : Table) (c : Lists) (printed : List ℕ) → IsMergedTable g b → AcceptsAlone g → ¬ (ListsNothing b) → c ≡ lists_of b
    → printed ≡ conflicts_text g c → Prints g Conflicts printed
conflicts_printed g b c printed is alone some same e = rw (e, same) (Prints.conflicts is alone some)

pub no_conflicts_printed :
    (g : Grammar) (b : Table) (printed : List ℕ) → IsMergedTable g b → AcceptsAlone g → ListsNothing b → printed ≡ codes "no conflicts\n"
    → Prints g Conflicts printed
no_conflicts_printed g b printed is alone none e = rw e (Prints.no_conflicts is alone none)
