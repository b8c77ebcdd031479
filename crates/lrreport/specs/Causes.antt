-- conflicts that are told together, since they have one cause
use Rattle.std.specs.Prelude.{◌≡◌, ◌≢◌, ◌<◌, ◌≤◌, ◌&&◌, ◌==◌, nat_eq, ℕ, Bool, false, if◌then◌else◌, List, [], ◌∷◌, Option, All, length, map, slice_index_or}
use Rattle.std.specs.List.{flat_map}
use Rattle.std.specs.Option.{option_eq}
use Rattle.lrverdicts.specs.declared.conflicts.Entry.{Entry}
use Rattle.lrverdicts.specs.Listed.{told}
use Rattle.lrshown.specs.declared.evidence.Evidence.{Evidence}
use Rattle.lrreport.specs.declared.causes.Cause.{Cause}
use Rattle.lrreport.specs.declared.causes.Kind.{Kind}
use Rattle.lrreport.specs.declared.causes.Meeting.{Meeting}
use Rattle.lrreport.specs.declared.conflicts.Checked.{Checked}
use Rattle.lrreport.specs.Conflicts.{conflict_of}

-- in one state a production meets another one, or a shift, at those tokens, and that is all that the entries tell
pub record MeetTogether
    (production : ℕ) (other : Option ℕ) (tokens : List ℕ)
    (entries : List Evidence) : Type 0 where
  pub state : ℕ
  pub are : map (λ e. told e.entry) entries
      ≡ map (λ token. (token, production, other, state)) tokens

-- the entries of a cause, state by state
abbrev pub entries_in : Cause → List Evidence
entries_in cause = flat_map (λ meeting. meeting.now) cause.meetings.items

-- these entries, by states
abbrev pub states_of : Cause → List (List Evidence)
states_of cause = map (λ meeting. meeting.now) cause.meetings.items

-- whether the same meets at both entries in the same state
abbrev pub meet_alike : Entry → Entry → Bool
meet_alike e f =
    (e.state == f.state)
    && ((e.production == f.production) && option_eq nat_eq e.other f.other)

-- an entry before runs of entries, and in the first of these if the same meets in it
abbrev pub run_before : Evidence → List (List Evidence) → List (List Evidence)
run_before e ((f ∷ es) ∷ runs) =
    if meet_alike e.entry f.entry
    then (e ∷ f ∷ es) ∷ runs
    else (e ∷ []) ∷ (f ∷ es) ∷ runs
run_before e runs = (e ∷ []) ∷ runs

-- the runs of entries at which the same meets in the same state
abbrev pub runs_of : List Evidence → List (List Evidence)
runs_of [] = []
runs_of (e ∷ es) = run_before e (runs_of es)

-- in each of its states the same production meets the same other one, or a shift, at the same tokens
pub record IsOneCause (cause : Cause) : Type 0 where
  pub production : ℕ
  pub other : Option ℕ
  pub tokens : List ℕ
  pub alike : All (λ meeting. MeetTogether production other tokens meeting.now) cause.meetings.items

-- all the states of a cause have one conflict
abbrev pub IsOneConflict : Checked → Cause → Type 0
IsOneConflict c cause =
    All
    (λ one. All (λ another. conflict_of c one.now ≡ conflict_of c another.now) cause.meetings.items)
    cause.meetings.items

-- no state of one cause has the conflict of a state of another
abbrev pub AreApart : Checked → Cause → Cause → Type 0
AreApart c cause other =
    All
    (λ one. All (λ another. conflict_of c one.now ≢ conflict_of c another.now) other.meetings.items)
    cause.meetings.items

-- what a meeting keeps is what meets in its entries
abbrev pub IsMet : Meeting → Type 0
IsMet m = MeetTogether m.kind.production m.kind.other m.kind.tokens.items m.evidence.now

-- and what its state does there, unless all are told
pub record HasKind (c : Checked) (m : Meeting) : Type 0 where
  pub some : 0 < length m.evidence.now
  pub decided : m.kind.decided.items ≡ (conflict_of c m.evidence.now).decided
  pub shifting : c.told.options.detail.all ≡ false
      → m.kind.items.items ≡ (conflict_of c m.evidence.now).shifting
  pub choice : c.told.options.detail.all ≡ false
      → m.kind.choice ≡ (conflict_of c m.evidence.now).choice

-- both kinds are the same
pub record AreAlike (one another : Kind) : Type 0 where
  pub production : one.production ≡ another.production
  pub other : one.other ≡ another.other
  pub choice : one.choice ≡ another.choice
  pub tokens : one.tokens.items ≡ another.tokens.items
  pub items : one.items.items ≡ another.items.items
  pub decided : one.decided.items ≡ another.decided.items

-- all meetings of a list are of one kind
abbrev pub AreOneKind : List Meeting → Type 0
AreOneKind ms = All (λ m. All (λ n. AreAlike m.kind n.kind) ms) ms

-- those of one kind stand together: what stands between two of them is of that kind
abbrev pub StandTogether : List Meeting → Type 0
StandTogether ms =
    (i j k : ℕ) (d : Meeting) → i ≤ j → j ≤ k → k < length ms
    → AreAlike (slice_index_or ms i d).kind (slice_index_or ms k d).kind
    → AreAlike (slice_index_or ms i d).kind (slice_index_or ms j d).kind
