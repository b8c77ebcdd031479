-- what a verdict says
use Rattle.std.specs.Prelude.{◌≡◌, ℕ, Bool, false, List, filter, length, IsTrue, None, is_none, is_some, unwrap_or}
use Rattle.lryacc.specs.declared.meaning.Expected.{Expected}
use Rattle.lrverdicts.specs.declared.conflicts.Entry.{Entry}
use Rattle.lrverdicts.specs.declared.verdicts.Counts.{Counts}
use Rattle.lrverdicts.specs.declared.verdicts.Verdict.{Verdict}
use Rattle.lrverdicts.specs.declared.verdicts.Verdict.TheVariants.{Unambiguous, NoConflicts, Conflicts, Unexpected}
use Rattle.lrverdicts.specs.declared.verdicts.Verdict.TheVariants as told

-- how many entries there are between a shift and a reduction, and how many between two reductions
abbrev pub counts_of : List Entry → Counts
counts_of es =
    record {
      shift_reduce = length (filter (λ e. is_none e.other) es);
      reduce_reduce = length (filter (λ e. is_some e.other) es);
    }

-- there are none
abbrev pub IsZero : Counts → Type 0
IsZero c = (c.shift_reduce ≡ 0) × (c.reduce_reduce ≡ 0)

-- the file expects just so many; a number that it does not say is 0
abbrev pub IsMet : Counts → Expected → Type 0
IsMet c e = (c.shift_reduce ≡ unwrap_or e.shift_reduce 0) × (c.reduce_reduce ≡ unwrap_or e.reduce_reduce 0)

-- the file does not say how many it expects
abbrev pub IsSilent : Expected → Type 0
IsSilent e = (e.shift_reduce ≡ None) × (e.reduce_reduce ≡ None)

-- the verdict of a grammar, which may be shown to be unambiguous, where so many conflicts are left open and the file
-- expects so many
abbrev pub IsVerdict : Bool → Counts → Expected → Verdict → Type 0
IsVerdict b left e Unambiguous = IsTrue b × IsZero left × IsMet left e
IsVerdict b left e NoConflicts = (b ≡ false) × IsZero left × IsMet left e
IsVerdict b left e (Conflicts c) = (c ≡ left) × (IsZero left → ⊥) × IsSilent e
IsVerdict b left e (told.Expected c) = (c ≡ left) × (IsZero left → ⊥) × (IsSilent e → ⊥) × IsMet left e
IsVerdict b left e (Unexpected c (s, r)) =
    (c ≡ left) × (IsSilent e → ⊥) × (IsMet left e → ⊥)
    × (s ≡ unwrap_or e.shift_reduce 0) × (r ≡ unwrap_or e.reduce_reduce 0)

-- how many conflicts a verdict tells
abbrev pub counts_in : Verdict → Counts
counts_in Unambiguous = record { shift_reduce = 0; reduce_reduce = 0 }
counts_in NoConflicts = record { shift_reduce = 0; reduce_reduce = 0 }
counts_in (Conflicts c) = c
counts_in (told.Expected c) = c
counts_in (Unexpected c wanted) = c

-- the exit status: 1 where there are conflicts that are not expected
abbrev pub status_of : Verdict → ℕ
status_of Unambiguous = 0
status_of NoConflicts = 0
status_of (Conflicts c) = 1
status_of (told.Expected c) = 0
status_of (Unexpected c wanted) = 1
