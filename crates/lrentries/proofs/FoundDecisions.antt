-- entries of which it is found that they are decided
use Rattle.std.proofs.Common.{◌≡◌, Option, None, Some, subst}
use Rattle.std.specs.Prelude.{IfSome}
use Rattle.lrspec.specs.grammars.Grammar.{Grammar}
use Rattle.lrspec.specs.merging.Graph.{Graph}
use Rattle.lrdecided.specs.declared.decided.Decided.{Decided}
use Rattle.lrdecided.specs.Entries as decided
use Rattle.lrdecided.specs.Entries.{IsDecidedAt, IsDecidedAtBy}
use Rattle.lrverdicts.specs.declared.conflicts.Entry.{Entry}
use Rattle.lrshown.specs.DecidedEntries.{IsDecidedEntry, meeting_of}

pub found_so :
    (g : Grammar) (h : Graph) (e : Entry) (m : decided.Entry) (o : Option Decided) → m ≡ meeting_of e
    → IfSome o (λ d. IsDecidedAt g h m) → IfSome o (λ d. IfSome d.tokens (λ k. IsDecidedAtBy g h m k))
    → IfSome o (IsDecidedEntry g h e)
found_so g h e m None same never by_tokens = tt
found_so g h e m (Some d) same never by_tokens = record {
  never = subst (λ m. IsDecidedAt g h m) same never;
  by_tokens = subst (λ m. IfSome d.tokens (λ k. IsDecidedAtBy g h m k)) same by_tokens;
}
