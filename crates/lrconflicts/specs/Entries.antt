-- the entries of a table's lists of conflicts
use Rattle.std.specs.Prelude.{ℕ, List, ◌++◌, map, Contains, Option, None, Some}
use Rattle.std.specs.Option.{option_map}
use Rattle.lrspec.specs.grammars.Grammar.{Symbol, Grammar}
use Rattle.lrspec.specs.merging.Graph.{Graph}
use Rattle.lrspec.specs.tables.Table.{Lists, shift_reduce_of, reduce_reduce_of}
use Rattle.lrconflicts.specs.declared.conflicts.Conflict.{Conflict}
use Rattle.lrcontests.specs.Contests.{IsShiftContest, IsReductionContest}
use Rattle.lrconflicts.specs.Moves.{Move, Shift, Reduce}

-- an entry: its token, production and state, and in the list of reduce/reduce conflicts the other
-- production before the state
pub data Entry : Type 0 where
  ShiftReduce : ℕ × ℕ × ℕ → Entry
  ReduceReduce : ℕ × ℕ × ℕ × ℕ → Entry

-- the entries of both lists, shift/reduce conflicts first
abbrev pub entries_of : Lists → List Entry
entries_of c = map (λ e. ShiftReduce e) c.shift_reduce ++ map (λ e. ReduceReduce e) c.reduce_reduce

-- both lists of a graph's table
abbrev pub lists_in : Grammar → Graph → Lists
lists_in g h =
    record { reduce_reduce = reduce_reduce_of g h; shift_reduce = shift_reduce_of g h }

-- the entry is in the lists of the graph's table
abbrev pub IsListed : Grammar → Graph → Entry → Type 0
IsListed g h (ShiftReduce e) = Contains (shift_reduce_of g h) e
IsListed g h (ReduceReduce e) = Contains (reduce_reduce_of g h) e

abbrev pub token_of : Entry → ℕ
token_of (ShiftReduce e) = e.0
token_of (ReduceReduce e) = e.0

-- what is done by the entry's production
abbrev pub one_of : Entry → Move
one_of (ShiftReduce e) = Reduce e.1
one_of (ReduceReduce e) = Reduce e.1

-- what the other candidate is: to shift, or to reduce by the other production
abbrev pub other_of : Entry → Move
other_of (ShiftReduce e) = Shift
other_of (ReduceReduce e) = Reduce e.2

-- after the list, which has the core of the entry's state, both its candidates are real on the
-- token `t`
abbrev pub IsRealAfter : Grammar → Graph → ℕ → Entry → List Symbol → Type 0
IsRealAfter g h t (ShiftReduce e) w = IsShiftContest g h t e.1 e.2 w
IsRealAfter g h t (ReduceReduce e) w = IsReductionContest g h t e.1 e.2 e.3 w

-- on the token `t` they are after no list
abbrev pub IsNowhereReal : Grammar → Graph → ℕ → Entry → Type 0
IsNowhereReal g h t e = (w : List Symbol) → IsRealAfter g h t e w → ⊥

-- the entry by its numbers
abbrev pub entry_by : ℕ → ℕ → ℕ → Option ℕ → Entry
entry_by t p s None = ShiftReduce (t, p, s)
entry_by t p s (Some q) = ReduceReduce (t, p, q, s)

-- the entry that is stored
abbrev pub entry_of : {T : Type 0} → (T → ℕ) → Conflict T → Entry
entry_of number c =
    entry_by (number c.token.0) (number c.production.0) (number c.state.0)
    (option_map (λ q. number q.0) c.other)
