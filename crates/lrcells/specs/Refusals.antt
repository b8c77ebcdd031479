-- why a graph has no table
use Rattle.std.specs.Prelude.{◌≡◌, ℕ, ◌<◌, ◌≤◌, ◌-◌, None, Some, length}
use Rattle.lrspec.specs.grammars.Grammar.{Grammar}
use Rattle.lrspec.specs.merging.Graph.{Graph}
use Rattle.lrspec.specs.tables.Conflicts.{IsLeastAcceptReduce}
use Rattle.lrgraphs.specs.declared.errors.BuildError.{BuildError}
use Rattle.lrgraphs.specs.declared.errors.BuildError.TheVariants.{Table, TooLarge, Memory}
use Rattle.lrgraphs.specs.declared.statetable.StateTableError.{StateTableError}
use Rattle.lrgraphs.specs.declared.statetable.StateTableErrorKind.{StateTableErrorKind}
use Rattle.lrgraphs.specs.declared.statetable.StateTableErrorKind.TheVariants.{AcceptReduceConflict}

-- a production is told, and `P` holds of it
abbrev pub TellsOne : {T : Type 0} → (T → ℕ) → (ℕ → Type 0) → StateTableErrorKind T → Type 0
TellsOne number P (AcceptReduceConflict None) = ⊥
TellsOne number P (AcceptReduceConflict (Some p)) = P (number p.0)

-- a conflict of accepting with a reduction: with a production of which `P` holds, at the start production
pub record IsAcceptReduce {T : Type 0} (number : T → ℕ) (g : Grammar) (P : ℕ → Type 0)
    (e : StateTableError T) : Type 0 where
  pub other : TellsOne number P e.kind
  pub at : number e.pidx.0 ≡ g.start_production

-- why a graph has no table: there are too many states for indices up to `most`; or else a state accepts and reduces, and
-- the least production by which one does is told
abbrev pub IsTableRefusal : {T : Type 0} → (T → ℕ) → ℕ → Grammar → Graph → BuildError T → Type 0
IsTableRefusal number most g h (Table e) =
    (length h < most - 1) × IsAcceptReduce number g (IsLeastAcceptReduce g h) e
IsTableRefusal number most g h TooLarge = most - 1 ≤ length h
IsTableRefusal number most g h Memory = Unit {0}
