-- actions of the code as plain data, and the numbers by which cells keep actions and gotos
use Rattle.std.specs.Prelude.{ℕ, ◌+◌, ◌*◌, ◌-◌, ◌/◌, ◌%◌, ◌≤◌, ◌==◌, if◌then◌else◌, List, map, Option, None, Some}
use Rattle.lrspec.specs.tables.Table.{Action, Shift, Reduce, Accept, Error}
use Rattle.lrrows.specs.declared.action.Action as stored
use Rattle.lrrows.specs.declared.action.Action.TheVariants as code

-- an action of the code, by the numbers of its state or production
abbrev pub stored_action : {T : Type 0} → (T → ℕ) → stored.Action T → Action
stored_action number (code.Shift s) = Shift (number s.0)
stored_action number (code.Reduce p) = Reduce (number p.0)
stored_action number code.Accept = Accept
stored_action number code.Error = Error

-- the number by which a cell keeps an action: 0 and 1 for an error and for accepting, from 2 on the
-- even ones for shifts and the odd ones for reductions
abbrev pub action_number : Action → ℕ
action_number Error = 0
action_number Accept = 1
action_number (Shift s) = 2 * s + 2
action_number (Reduce p) = 2 * p + 3

-- the action that a number keeps
abbrev pub action_numbered : ℕ → Action
action_numbered n =
    if n == 0 then Error
    else if n == 1 then Accept
    else if n % 2 == 0 then Shift ((n - 2) / 2)
    else Reduce ((n - 2) / 2)

-- the actions that the numbers of a row's entries keep
abbrev pub actions_in : List (ℕ × ℕ) → List Action
actions_in entries = map (λ e. action_numbered e.1) entries

-- the state or production of the action is at most the greatest index
abbrev pub IsIndexed : ℕ → Action → Type 0
IsIndexed most (Shift s) = s ≤ most
IsIndexed most (Reduce p) = p ≤ most
IsIndexed most Accept = Unit {0}
IsIndexed most Error = Unit {0}

-- the number by which a cell keeps a goto: 0 for none, and else the number of the state and one
abbrev pub goto_number : Option ℕ → ℕ
goto_number None = 0
goto_number (Some s) = s + 1

-- the goto that a number keeps
abbrev pub goto_numbered : ℕ → Option ℕ
goto_numbered n = if n == 0 then None else Some (n - 1)

-- the action is a reduction or an error
abbrev pub NeitherShiftsNorAccepts : Action → Type 0
NeitherShiftsNorAccepts (Shift s) = ⊥
NeitherShiftsNorAccepts (Reduce p) = Unit {0}
NeitherShiftsNorAccepts Accept = ⊥
NeitherShiftsNorAccepts Error = Unit {0}
